use Rattle.std.proofs.Common.{◌≡◌, ◌+◌, ◌∷◌, [], ◌++◌, ap, ◌∙◌, sym, arith}
use Rattle.std.specs.Prelude.{codes}
use Rattle.fs_codec.specs.Bytes.{entry_bytes}
use Rattle.make_image.specs.Files.{entry, name_of}
use Rattle.make_image.proofs.FilesLemmas.{flat_map_one_more}
use Rattle.make_image.proofs.tree.users.Goals as goal

pub loop-k-preserved : goal.loop-k-preserved
loop-k-preserved c =
    let k = c.loop-k.k in
    let named : c.entry-in-loop-k.result ≡ entry (8 + k) (name_of k) = c.entry-in-loop-k.ensures ∙ ap (entry (8 + k)) c.name.ensures in
    record {
      items = c.in_ok-push_entry.ensures.items ∙ ap (λ e. c.loop-k.bytes.items ++ entry_bytes e) named ∙ ap (λ l. l ++ entry_bytes (entry (8 + k) (name_of k))) c.loop-k.invariant.items
          ∙ sym (flat_map_one_more entry_bytes (entry 4 (codes ".") ∷ entry 1 (codes "..") ∷ []) (λ k. entry (8 + k) (name_of k)) k);
      len = omega (arith, c.in_ok-push_entry.ensures.len);
    }
