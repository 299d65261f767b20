use Rattle.std.proofs.Common.{refl, rules}
use Rattle.fs_codec.proofs.WordsLemmas.{words_kept}
use Rattle.u_area.proofs.PartLemmas.{part_by_places, part_kept}
use Rattle.u_area.proofs.AreaLemmas.{front_of_parts, parts_of_reads}
use Rattle.u_area.proofs.area.UArea.front.Goals as goal

pub returns-clause-sized : goal.returns-clause-sized
returns-clause-sized c = record { r = search rules; call = search rules; handlers = search rules; files = search rules }

pub returns-clause-written : goal.returns-clause-written
returns-clause-written c = front_of_parts _ c.args.self.now (returns-clause-sized c) (search rules) (record { pending = search (rules, c.blank-b.ensures 31); status = λ k low high. search (rules, c.blank-b.ensures k); rest = λ k low. search (rules, c.blank-b.ensures k) })
    (parts_of_reads _ c.args.self.now (search rules) c.put_bytes-2.ensures.fit (record {
      registers = words_kept _ _ _ 0 8 c.put_words.ensures.here (search rules) (λ k low high. search rules);
      ps = search rules;
      ids = part_kept _ _ _ 18 4 refl (search rules) c.put_bytes.ensures.here (λ k low high. search rules);
      directory = search rules;
      sizes = words_kept _ _ _ 24 3 c.put_words-2.ensures.here refl (λ k low high. search rules);
      pending = search rules;
      call = words_kept _ _ _ 32 8 c.put_words-3.ensures.here (search rules) (λ k low high. search rules);
      spent = words_kept _ _ _ 48 2 c.put_words-4.ensures.here refl (λ k low high. search rules);
      child_user = search rules;
      child_system = search rules;
      status = search rules;
      handlers = words_kept _ _ _ 64 20 c.put_words-5.ensures.here (search rules) (λ k low high. search rules);
      files = part_by_places _ _ 104 15 (search rules) (search rules) (λ k h. c.put_bytes-2.ensures.here k (search rules));
    }))
