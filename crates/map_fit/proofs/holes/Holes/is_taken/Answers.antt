use Rattle.std.proofs.Common.{◌≡◌, sym, ap, ◌∙◌, subst}
use Rattle.std.specs.List.{list_all}
use Rattle.map_fit.specs.Free.{AreFrom}
use Rattle.map_fit.specs.Lists.{is_apart}
use Rattle.map_fit.proofs.Taken.{apart_taken, taken_apart}
use Rattle.map_fit.proofs.holes.Holes.is_taken.Goals as goal

pub returns : goal.returns
returns c =
    let all : c.are_apart.result ≡ list_all (is_apart c.args.at c.args.n) c.args.self.now = c.are_apart.ensures ∙ ap (list_all (is_apart c.args.at c.args.n)) (c.as_slice.ensures.value ∙ c.self.view_is) in (
      λ e x l m. apart_taken c.args.self.now c.args.at c.args.n x (sym all ∙ e) l m,
      λ none. all ∙ taken_apart 0 c.args.at c.args.n c.args.self.now (subst (λ hs. AreFrom 0 hs) c.self.view_is c.self.invariant) c.requires none,
    )
