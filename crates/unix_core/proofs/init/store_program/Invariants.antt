use Rattle.std.proofs.Common.{◌≡◌, ◌*◌, ◌++◌, drop}
use Rattle.fs_codec.specs.Bytes.{bytes_of}
use Rattle.abstract_unix.specs.Init.{init_words}
use Rattle.unix_core.proofs.MemoryLemmas.{IsWritten}
use Rattle.unix_core.proofs.init.store_program.Given as goal

abbrev pub invariant-loop-i : goal.invariant-loop-i
invariant-loop-i g l = record {
  text : (g.S.Space.image l.space).text ≡ (g.S.Space.image l.initial.space).text;
  stack : (g.S.Space.image l.space).stack ≡ (g.S.Space.image l.initial.space).stack;
  rest : g.S.Space.rest l.space ≡ g.S.Space.rest l.initial.space;
  written : IsWritten (2 * l.i) (bytes_of init_words ++ drop 22 (g.S.Space.image l.initial.space).data)
      (g.S.Space.image l.initial.space).data (g.S.Space.image l.space).data;
}
