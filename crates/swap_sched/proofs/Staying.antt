-- What moves leave of images and of texts.
use Rattle.std.proofs.Common.{◌≡◌, ◌∙◌, ◌+◌, ℕ, zero, suc, List, [], ◌∷◌, get_or, set, Option, Some, None, refl, sym, ap, subst}
use Rattle.v6_base.specs.Trace.{Item, Byte, Log, Taken}
use Rattle.v6_base.specs.declared.entry.Place.{Place}
use Rattle.v6_base.specs.declared.entry.Place.TheVariants.{Core, Swap}
use Rattle.v6_base.specs.declared.entry.Entry.{Entry}
use Rattle.v6_base.specs.declared.entry.Entry.TheVariants.{SwapIn, SwapOut}
use Rattle.pick_rules.specs.declared.table.Table.{Table}
use Rattle.pick_rules.specs.Logged.{Logged}
use Rattle.text_tab.specs.Table.{loaded_at}
use Rattle.text_tab.specs.Table as text_tab
use Rattle.image_keep.specs.Kept.{Kept, Keeping, Nothing, Alive, Grave, Shared, keeping, shared, text_of, at_place, changed}
use Rattle.image_keep.specs.Moves.{come_shared, leave_shared, text_need, swapped_in, swapped_out}
use Rattle.swap_sched.specs.Moved.{kept_by_line, kept_by_item, kept_after, HasMoved, unplaced, unloaded, SameImages}
use Rattle.swap_sched.proofs.Boards.{come_core, come_slots, come_users, leave_core, leave_slots, leave_users}

-- an element is replaced by one that a rule cannot tell from it
same_set : {A B : Type 0} (f : A → B) (xs : List A) (s : ℕ) (y d : A) → f y ≡ f (get_or xs s d) → (r : ℕ) → f (get_or (set xs s y) r d) ≡ f (get_or xs r d)
same_set f [] s y d e r = refl
same_set f (x ∷ xs) zero y d e zero = e
same_set f (x ∷ xs) zero y d e (suc r) = refl
same_set f (x ∷ xs) (suc s) y d e zero = refl
same_set f (x ∷ xs) (suc s) y d e (suc r) = same_set f xs s y d e r

same_place : (place : Place) (x : Keeping) → unplaced (at_place place x) ≡ unplaced x
same_place place Nothing = refl
same_place place (Alive held) = refl
same_place place (Grave u block) = refl

same_load : (c : ℕ) (x : Option Shared) → unloaded (changed (loaded_at c) x) ≡ unloaded x
same_load c None = refl
same_load c (Some x) = refl

same_unload : (x : Option Shared) → unloaded (changed text_tab.unloaded x) ≡ unloaded x
same_unload None = refl
same_unload (Some x) = refl

come_texts : (k : Kept) (o : Option ℕ) (c t : ℕ) → unloaded (shared (come_shared k o c) t) ≡ unloaded (shared k t)
come_texts k None c t = refl
come_texts k (Some j) c t = same_set unloaded k.texts j (changed (loaded_at c) (shared k j)) None (same_load c (shared k j)) t

leave_texts : (k : Kept) (o : Option ℕ) (t : ℕ) → unloaded (shared (leave_shared k o) t) ≡ unloaded (shared k t)
leave_texts k None t = refl
leave_texts k (Some j) t = same_set unloaded k.texts j (changed text_tab.unloaded (shared k j)) None (same_unload (shared k j)) t

placed_slots : (slots : List Keeping) (s : ℕ) (place : Place) (r : ℕ)
    → unplaced (get_or (set slots s (at_place place (get_or slots s Nothing))) r Nothing) ≡ unplaced (get_or slots r Nothing)
placed_slots slots s place r = same_set unplaced slots s (at_place place (get_or slots s Nothing)) Nothing (same_place place (get_or slots s Nothing)) r

same_none : (k : Kept) → SameImages k k
same_none k = record { core = refl; users = refl; slots = λ s. refl; texts = λ t. refl }

same_trans : (k m n : Kept) → SameImages k m → SameImages m n → SameImages k n
same_trans k m n a b = record {
  core = b.core ∙ a.core;
  users = b.users ∙ a.users;
  slots = λ s. b.slots s ∙ a.slots s;
  texts = λ t. b.texts t ∙ a.texts t;
}

same_in : (k : Kept) (s c : ℕ) → SameImages k (swapped_in k s (Some c))
unfolding swapped_in
same_in k s c = record {
  core = come_core k (text_of k s) c;
  users = come_users k (text_of k s) c;
  slots = λ r. ap (λ l. unplaced (get_or (set l s (at_place (Core (c + text_need k (text_of k s))) (keeping k s))) r Nothing)) (come_slots k (text_of k s) c)
      ∙ placed_slots k.slots s (Core (c + text_need k (text_of k s))) r;
  texts = come_texts k (text_of k s) c;
}

same_out : (k : Kept) (s block : ℕ) → SameImages k (swapped_out k s (Some block))
unfolding swapped_out
same_out k s block = record {
  core = leave_core k (text_of k s);
  users = leave_users k (text_of k s);
  slots = λ r. ap (λ l. unplaced (get_or (set l s (at_place (Swap block) (keeping k s))) r Nothing)) (leave_slots k (text_of k s))
      ∙ placed_slots k.slots s (Swap block) r;
  texts = leave_texts k (text_of k s);
}

same_line : (k : Kept) (e : Entry) → SameImages k (kept_by_line k e)
same_line k (SwapIn s c) = same_in k s c
same_line k (SwapOut s block) = same_out k s block
same_line k e = same_none k

same_item : (k : Kept) (item : Item) → SameImages k (kept_by_item k item)
same_item k (Log e) = same_line k e
same_item k (Byte l byte) = same_none k

same_after : (k : Kept) (items : List Item) → SameImages k (kept_after k items)
same_after k [] = same_none k
same_after k (item ∷ items) = same_trans k (kept_by_item k item) (kept_after k (item ∷ items)) (same_item k item) (same_after (kept_by_item k item) items)

pub final_same : (t u : Table) (k m : Kept) (a y : Taken) (l : Logged (Unit {0})) → HasMoved t k a l u m y → SameImages k m
final_same t u k m a y l h = subst (SameImages k) (sym h.images) (same_after k l.items)
