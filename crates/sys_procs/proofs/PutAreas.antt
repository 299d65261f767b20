-- A process's u area is another one, with the sizes that it had: what is handed to a call, and what is on the board.
use Rattle.std.proofs.Common.{◌≡◌, ◌∙◌, ℕ, List, length, get_or, Option, None, refl, ap, arith}
use Rattle.std.specs.Option.{unwrap_or}
use Rattle.u_area.specs.declared.area.UArea.{UArea}
use Rattle.image_keep.specs.Kept.{area_of, with_area}
use Rattle.image_keep.specs.State.{ImagesState}
use Rattle.sys_procs.specs.declared.procs.Procs.{Procs}
use Rattle.sys_procs.specs.Process.{Process, no_process}
use Rattle.sys_procs.specs.World.{processes_in}
use Rattle.sys_procs.specs.Handed.{handed, process_here, IsAlive}
use Rattle.sys_procs.specs.inside.Handed.{HasArea}
use Rattle.sys_procs.proofs.SameKept.{SameKept, same_handed, same_board, same_here, same_alive}
use Rattle.sys_procs.proofs.Slots.{fifty_processes}
use Rattle.sys_procs.proofs.Alive.{area_here, put_here, SameSizes, area_put, area_state, area_board, area_alive}

-- by what was made of the u area where it stands
pub area_set : (p : Procs) (s : ℕ) → IsAlive p s → length p.images.kept.slots ≡ 50 → (i : ImagesState) (made : UArea → UArea)
    → i.kept ≡ with_area p.images.kept s (made (area_of p.images.kept s)) → SameSizes (made (process_here p s).u) (process_here p s).u
    → HasArea p (record p { images = i }) s (made (process_here p s).u)
area_set p s alive long i made kept same =
    let u : UArea = made (process_here p s).u in
    let images : i.kept ≡ with_area p.images.kept s u = kept ∙ ap (λ (v : UArea). with_area p.images.kept s (made v)) (area_here p s alive) in
    let put : SameKept (record p { images = i }) (record p { images = record p.images { kept = with_area p.images.kept s u } }) =
    record { rows = refl; table = refl; kept = images; switches = refl } in
    let at : List (Option Process) → Process = λ ps. unwrap_or (get_or ps s None) no_process in
    record {
      state = λ fs. same_handed put fs ∙ area_state p s u fs
          ∙ ap (λ (ps : List (Option Process)). record (handed p fs) { processes = ps }) (area_put p s u alive long);
      here = same_here put s ∙ (ap at (area_put p s u alive long)
          ∙ put_here (processes_in p.rows.slots p.images.kept) s (record (process_here p s) { u = u }) (omega (arith, alive.below, fifty_processes p.rows.slots p.images.kept)));
      images = images;
      rows = refl;
      table = refl;
      switches = refl;
      board = same_board put ∙ area_board p s u;
      alive = same_alive put (area_alive p s u alive long same);
    }
