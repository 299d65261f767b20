-- What several calls of a host do to the ports, one after another.
use Rattle.std.proofs.Common.{◌≡◌, ◌+◌, ◌<◌, ℕ, arith, zero, suc, Bool, true, false, refl, sym, ◌∙◌, ap, subst, eqb-true}
use Rattle.std.specs.Prelude.{◌==◌}
use Rattle.std.proofs.lemmas.Bool.Decides.{nat_tests}
use Rattle.v6_port.specs.declared.host.InPort.TheVariants as in_port
use Rattle.v6_port.specs.declared.host.OutPort.TheVariants as out_port
use Rattle.v6_port.specs.Outside.{Port, In, Out, port_number, same, PortState, Environment, Outside, Tells, Rose, OnlyAt}
use Rattle.v6_port.specs.Causes.{SameCounts, Calm, FaultAt}

-- the port of a number
port_at : ℕ → Port
port_at zero = In in_port.Image
port_at (suc zero) = In in_port.Script
port_at (suc (suc zero)) = In in_port.Log
port_at (suc (suc (suc zero))) = In in_port.Second
port_at (suc (suc (suc (suc zero)))) = Out out_port.Term
port_at (suc (suc (suc (suc (suc zero))))) = Out out_port.Log
port_at (suc (suc (suc (suc (suc (suc zero)))))) = Out out_port.Final
port_at (suc (suc (suc (suc (suc (suc (suc zero))))))) = Out out_port.Report
port_at (suc (suc (suc (suc (suc (suc (suc (suc zero)))))))) = Out out_port.Second
port_at (suc (suc (suc (suc (suc (suc (suc (suc (suc l))))))))) = Out (out_port.Line l)

-- a line's number, as `port_at` reads it
line_number : (l : ℕ) → 9 + l ≡ suc (suc (suc (suc (suc (suc (suc (suc (suc l))))))))
line_number l = omega arith

port_at-number : (p : Port) → port_at (port_number p) ≡ p
unfolding port_at
port_at-number (In in_port.Image) = refl
port_at-number (In in_port.Script) = refl
port_at-number (In in_port.Log) = refl
port_at-number (In in_port.Second) = refl
port_at-number (Out out_port.Term) = refl
port_at-number (Out out_port.Log) = refl
port_at-number (Out out_port.Final) = refl
port_at-number (Out out_port.Report) = refl
port_at-number (Out out_port.Second) = refl
port_at-number (Out (out_port.Line l)) = ap port_at (line_number l)

pub same_is : (p q : Port) → same p q ≡ true → p ≡ q
same_is p q is = sym (port_at-number p) ∙ ap port_at (eqb-true (port_number p) (port_number q) is) ∙ port_at-number q

-- a line is none of the other ports
pub not_line : (n l : ℕ) → n < 9 → (n == 9 + l) ≡ false
not_line n l below = grind (arith, nat_tests)

pub still_tells : (mine : Port → Bool) (a b : Outside) → OnlyAt mine a b → Tells a → Tells b
still_tells mine a b only told = ap (λ (f : Environment). f.tells) only.fixed ∙ told

pub only_then : (mine : Port → Bool) (a b c : Outside) → OnlyAt mine a b → OnlyAt mine b c → OnlyAt mine a c
only_then mine a b c first second = record {
  fixed = second.fixed ∙ first.fixed;
  others = λ q other. second.others q other ∙ first.others q other;
}

same_then : (a b c : PortState) → SameCounts a b → SameCounts b c → SameCounts a c
same_then a b c first second = record { faults = second.faults ∙ first.faults; missing = second.missing ∙ first.missing }

pub calm_still : (o : Outside) → Calm o o
calm_still o = record { at = λ q. record { faults = refl; missing = refl } }

pub calm_then : (a b c : Outside) → Calm a b → Calm b c → Calm a c
calm_then a b c first second = record { at = λ q. same_then _ _ _ (first.at q) (second.at q) }

pub fault_then : (p : Port) (known : Bool) (a b c : Outside) → b.fixed ≡ a.fixed → Calm a b → FaultAt p known b c → FaultAt p known a c
fault_then p known a b c fixed first second = record {
  rose = subst (λ n. Rose n (c.port p).faults) (first.at p).faults second.rose;
  others = record { at = λ q other. same_then _ _ _ (first.at q) (second.others.at q other) };
  missing = λ told is. second.missing (ap (λ (f : Environment). f.tells) fixed ∙ told) is ∙ (first.at p).missing;
}
