-- The numbers of errors: section II of the UNIX Programmer's Manual, INTRO(II).
use Rattle.std.specs.Prelude.{ℕ}
use Rattle.v6_base.specs.declared.errno.Errno.{Errno}
use Rattle.v6_base.specs.declared.errno.Errno.TheVariants.{EPERM, ENOENT, ESRCH, EINTR, EIO, ENXIO, E2BIG, ENOEXEC, EBADF, ECHILD, EAGAIN, ENOMEM, EACCES, ENOTBLK, EBUSY, EEXIST, EXDEV, ENODEV, ENOTDIR, EISDIR, EINVAL, ENFILE, EMFILE, ENOTTY, ETXTBSY, EFBIG, ENOSPC, ESPIPE, EROFS, EMLINK, EPIPE, ENOSYS, EFAULT}

abbrev pub error_number : Errno → ℕ
error_number EPERM = 1
error_number ENOENT = 2
error_number ESRCH = 3
error_number EINTR = 4
error_number EIO = 5
error_number ENXIO = 6
error_number E2BIG = 7
error_number ENOEXEC = 8
error_number EBADF = 9
error_number ECHILD = 10
error_number EAGAIN = 11
error_number ENOMEM = 12
error_number EACCES = 13
error_number ENOTBLK = 15
error_number EBUSY = 16
error_number EEXIST = 17
error_number EXDEV = 18
error_number ENODEV = 19
error_number ENOTDIR = 20
error_number EISDIR = 21
error_number EINVAL = 22
error_number ENFILE = 23
error_number EMFILE = 24
error_number ENOTTY = 25
error_number ETXTBSY = 26
error_number EFBIG = 27
error_number ENOSPC = 28
error_number ESPIPE = 29
error_number EROFS = 30
error_number EMLINK = 31
error_number EPIPE = 32
error_number ENOSYS = 100
error_number EFAULT = 106
