-- At which step a command has stopped that writes one file.
use Rattle.std.proofs.Common.{◌≡◌, ℕ, Bool, true, false, ◌||◌, ◌⊎◌, inl, inr, List, [], ◌∷◌, if◌then◌else◌, refl, sym, ◌∙◌, ap, subst, lit<}
use Rattle.v6_port.specs.declared.host.OutPort.{OutPort}
use Rattle.v6_port.specs.declared.host.OutPort.TheVariants as out_port
use Rattle.v6_port.specs.Outside.{Out, same, is_report, PortState, Outside, OnlyAt}
use Rattle.v6_port.proofs.CauseLemmas.{not_line}
use Rattle.v6_run.specs.declared.status.Status.TheVariants.{WriteFault}
use Rattle.v6_run.specs.Fronts.{HoldsSome}
use Rattle.v6_run.specs.Opened.{output, has_port}
use Rattle.v6_run.specs.Steps.{is_written_before, StopsFile, StopsAt}
use Rattle.v6_run.specs.Headline.{only_to}
use Rattle.v6_run.proofs.OutputLemmas.{empty_of}

-- Final alone is opened
pub final_alone : (name : List ℕ) (o : Outside) (state : Bool) → (o.port (Out out_port.Final)).is_open ≡ state
    → (q : OutPort) → has_port (output out_port.Final name ∷ []) (Out q) ≡ true → (o.port (Out q)).is_open ≡ state
final_alone name o state is out_port.Term among = absurd (let no : false ≡ true = among in cc)
final_alone name o state is out_port.Log among = absurd (let no : false ≡ true = among in cc)
final_alone name o state is out_port.Final among = is
final_alone name o state is out_port.Report among = absurd (let no : false ≡ true = among in cc)
final_alone name o state is out_port.Second among = absurd (let no : false ≡ true = among in cc)
final_alone name o state is (out_port.Line l) among =
    absurd (let no : false ≡ true = sym (ap (λ b. b || false) (not_line 6 l (lit< tt))) ∙ among in cc)

-- A disk could not be made.
pub make_stopped : (name text : List ℕ) (a b : Outside) → OnlyAt (same (Out out_port.Final)) a b → StopsFile out_port.Final a b
    → (p : OutPort) → WriteFault out_port.Final ≡ WriteFault p → StopsAt (output out_port.Final name ∷ []) (only_to out_port.Final text) p a b
make_stopped name text a b only stops p is =
    let final : out_port.Final ≡ p = cc in subst (λ q. StopsAt (output out_port.Final name ∷ []) (only_to out_port.Final text) q a b) final (by stops)
  where
    others : (q : OutPort) → same (Out out_port.Final) (Out q) ≡ false → (b.port (Out q)).bytes ≡ (a.port (Out q)).bytes
    others q other = ap (λ (state : PortState). state.bytes) (only.others (Out q) other)

    unwritten : (b.port (Out out_port.Final)).bytes ≡ (a.port (Out out_port.Final)).bytes → (q : OutPort) → is_report (Out q) ≡ false
        → (b.port (Out q)).bytes ≡ (a.port (Out q)).bytes
    unwritten same_bytes out_port.Term other = others out_port.Term refl
    unwritten same_bytes out_port.Log other = others out_port.Log refl
    unwritten same_bytes out_port.Final other = same_bytes
    unwritten same_bytes out_port.Report other = others out_port.Report refl
    unwritten same_bytes out_port.Second other = others out_port.Second refl
    unwritten same_bytes (out_port.Line l) other = others (out_port.Line l) (not_line 6 l (lit< tt))

    earlier : (q : OutPort) → is_written_before q out_port.Final ≡ true → HoldsSome (only_to out_port.Final text q) (a.port (Out q)).bytes (b.port (Out q)).bytes
    earlier out_port.Term before = empty_of _ _ _ refl (others out_port.Term refl)
    earlier out_port.Log before = empty_of _ _ _ refl (others out_port.Log refl)
    earlier out_port.Final before = absurd (let no : false ≡ true = before in cc)
    earlier out_port.Report before = absurd (let no : false ≡ true = before in cc)
    earlier out_port.Second before = absurd (let no : false ≡ true = before in cc)
    earlier (out_port.Line l) before =
        empty_of _ _ _ (ap (λ t. if t then text else []) (sym (not_line 6 l (lit< tt)))) (others (out_port.Line l) (not_line 6 l (lit< tt)))

    by : StopsFile out_port.Final a b → StopsAt (output out_port.Final name ∷ []) (only_to out_port.Final text) out_port.Final a b
    by (inl closed) = inl (record { states = final_alone name b false closed.0; bytes = unwritten closed.1 })
    by (inr still) = inr (inl (record { states = final_alone name b true still; written = λ told q other before. earlier q before }))
