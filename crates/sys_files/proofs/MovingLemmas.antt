-- What a read or a write of an open file makes of the parts.
use Rattle.std.proofs.Common.{◌≡◌, ◌<◌, ◌+◌, ◌%◌, ◌^◌, ℕ, false, pos, List, [], ◌∷◌, Option, Some, None, is_some, unwrap_or, IsSome, refl, sym, ap, ◌∙◌}
use Rattle.v6_base.specs.Image.{Image}
use Rattle.v6_base.specs.declared.answer.Answer.TheVariants.{Sleep}
use Rattle.v6_base.specs.declared.entry.Chan.{Chan}
use Rattle.proc_tab.specs.declared.row.Row.{Row}
use Rattle.u_area.specs.declared.layout.TheConstants.{LINE_READ, LINE_WRITE}
use Rattle.u_area.specs.declared.area.UArea.{UArea}
use Rattle.u_area.proofs.AreaLemmas.{one_area}
use Rattle.fs_codec.specs.Store.{Node}
use Rattle.fs_laws.specs.Pieces.{Moving}
use Rattle.fs_nodes.specs.Keys.{Stores, node_numbered, with_node}
use Rattle.fs_nodes.specs.FileSystem.{FileSystem}
use Rattle.open_files.specs.declared.file.OpenFile.{OpenFile}
use Rattle.open_files.specs.Files.{with_change, with_offset}
use Rattle.fs_tree.specs.Finding.{inodes_of}
use Rattle.sys_files.specs.declared.files.Files.{Files}
use Rattle.sys_files.specs.Handed.{handed, Handed, node_in, no_node, no_file, file_of}
use Rattle.sig_core.specs.Signals.{due}
use Rattle.sys_files.specs.Entering.{did_with}
use Rattle.lines_eight.specs.Told.{keys_of, show_of}
use Rattle.sys_files.specs.Moving.{IsFileOf, with_moved, waits_for_keys, waits_for_room}
use Rattle.sys_files.proofs.PipingLemmas.{sleeps_on}

-- the file of an entry, to all who are handed the files
pub file_is : (f : Files) (entry : ℕ) (file : OpenFile) → IsFileOf f entry file → (u : UArea) (row : Row) (image : Image) → file ≡ file_of (handed f u row image) entry
file_is f entry file is u row image = ap (λ o. unwrap_or o no_file) (sym is.is)

-- an area with another pending call
pub pending_changed : (u : UArea) (pending : ℕ) (call : List ℕ) (codes : u.cc < 16)
    → ◌≡◌ {A = UArea} (record u { pending = pending; call = call; codes = codes }) (record u { pending = pending; call = call })
pending_changed u pending call codes =
    one_area (record u { pending = pending; call = call; codes = codes }) (record u { pending = pending; call = call })
    refl refl refl refl refl refl refl refl refl refl refl refl refl refl refl refl refl refl refl

-- A process waits for keys, and its area keeps what it needs to go on.
pub keys_by : (h : Handed) (l : ℕ) (u new : UArea) (row : Row) (entry at count : ℕ) (chan : Chan) → chan ≡ keys_of l → h.u ≡ u → h.row ≡ row → is_some (due row u) ≡ false
    → record u { pending = LINE_READ; call = entry ∷ at ∷ count ∷ 0 ∷ 0 ∷ 0 ∷ 0 ∷ 0 ∷ [] } ≡ new
    → waits_for_keys h l entry at count ≡ did_with (record h { u = new }) (Sleep (pos 10) chan)
keys_by h l u new row entry at count chan keys area own none kept =
    sleeps_on h u row _ area own none
    ∙ ap (λ (x : UArea). did_with (record h { u = x }) (Sleep (pos 10) (keys_of l)))
    (ap (λ (x : UArea). record x { pending = LINE_READ; call = entry ∷ at ∷ count ∷ 0 ∷ 0 ∷ 0 ∷ 0 ∷ 0 ∷ [] }) area ∙ kept)
    ∙ ap (λ (x : Chan). did_with (record h { u = new }) (Sleep (pos 10) x)) (sym keys)

-- or for room
pub room_by : (h : Handed) (l : ℕ) (u new : UArea) (row : Row) (entry at count done : ℕ) (chan : Chan) → chan ≡ show_of l → h.u ≡ u → h.row ≡ row → is_some (due row u) ≡ false
    → record u { pending = LINE_WRITE; call = entry ∷ at ∷ count ∷ done ∷ 0 ∷ 0 ∷ 0 ∷ 0 ∷ [] } ≡ new
    → waits_for_room h l entry at count done ≡ did_with (record h { u = new }) (Sleep (pos 20) chan)
room_by h l u new row entry at count done chan show area own none kept =
    sleeps_on h u row _ area own none
    ∙ ap (λ (x : UArea). did_with (record h { u = x }) (Sleep (pos 20) (show_of l)))
    (ap (λ (x : UArea). record x { pending = LINE_WRITE; call = entry ∷ at ∷ count ∷ done ∷ 0 ∷ 0 ∷ 0 ∷ 0 ∷ [] }) area ∙ kept)
    ∙ ap (λ (x : Chan). did_with (record h { u = new }) (Sleep (pos 20) x)) (sym show)

node_by : (o : Option Node) → IsSome o → o ≡ Some (unwrap_or o no_node)
node_by None used = absurd (cc)
node_by (Some node) used = refl

-- the node of a number that is used
pub node_there : (store : Stores) (ino : ℕ) → IsSome (node_numbered store ino)
    → node_numbered store ino ≡ Some (node_in store ino)
node_there store ino used = node_by (node_numbered store ino) used

-- the inode and the open file, by what was moved
pub moved_state : {Memory : Type 0} (h : Handed) (entry done : ℕ) (file : OpenFile) (m : OpenFile → Moving Memory) (new : FileSystem) (files : List (Option OpenFile))
    → file ≡ file_of h entry
    → new.store ≡ with_node h.inodes.store file.ino (m file).node (m file).room
    → new.references ≡ h.inodes.references
    → files ≡ with_change h.files entry (with_offset ((file.offset + done) % 2 ^ 32))
    → done ≡ (m file).done
    → ◌≡◌ {A = Handed} (record h { inodes = inodes_of new; files = files }) (with_moved h entry (m (file_of h entry)))
moved_state h entry done file m new files is store references change count =
    let place = change ∙ ap (λ n. with_change h.files entry (with_offset ((file.offset + n) % 2 ^ 32))) count in
    (λ i. record h { inodes = record { store = store i; references = references i }; files = place i })
    ∙ ap (λ (x : OpenFile). record h {
      inodes = record h.inodes { store = with_node h.inodes.store x.ino (m x).node (m x).room };
      files = with_change h.files entry (with_offset ((x.offset + (m x).done) % 2 ^ 32));
    }) is
