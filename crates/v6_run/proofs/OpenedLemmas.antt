-- What is opened one after another.
use Rattle.std.proofs.Common.{◌≡◌, ℕ, Bool, true, false, if◌then◌else◌, Option, Some, None, IsSomeAnd, List, [], ◌∷◌, ◌++◌, take, sym, subst}
use Rattle.std.specs.Option.{option_map}
use Rattle.v6_port.specs.declared.host.InPort.TheVariants as in_port
use Rattle.v6_port.specs.Outside.{Port, In, Out, Environment}
use Rattle.fs_codec.specs.Faults.{image_fault}
use Rattle.v6_run.specs.declared.image.TheConstants.{IMAGE_LIMIT}
use Rattle.v6_run.specs.Opened.{NamedPort, input, second_inputs, ports_before, IsGoodAt, image_read, AreGoodAfter, AreGood}

pub good_first : (fixed : Environment) (first : Option (List ℕ)) (p : NamedPort) (ports : List NamedPort) (q : Port) → IsGoodAt first fixed p.name p.port
    → AreGoodAfter (image_read fixed first p.name p.port) fixed (ports_before ports q) → AreGoodAfter first fixed (ports_before (p ∷ ports) q)
good_first fixed first p ports q good rest = at _
  where
    at : (b : Bool) → AreGoodAfter first fixed (if b then [] else p ∷ ports_before ports q)
    at true = tt
    at false = (good, rest)

-- where all are good, those before a port are
good_front : (fixed : Environment) (first : Option (List ℕ)) (ports : List NamedPort) (q : Port) → AreGoodAfter first fixed ports
    → AreGoodAfter first fixed (ports_before ports q)
good_front fixed first [] q good = tt
good_front fixed first (p ∷ ports) q good =
    good_first fixed first p ports q good.0 (good_front fixed (image_read fixed first p.name p.port) ports q good.1)

pub good_before : (fixed : Environment) (ports : List NamedPort) (q : Port) → AreGood fixed ports → AreGood fixed (ports_before ports q)
good_before fixed ports q good = good_front fixed None ports q good

-- What is good where no image has been read is so after one.
good_at : (fixed : Environment) (first : Option (List ℕ)) (name : List ℕ) (q : Port) → IsGoodAt None fixed name q → IsGoodAt first fixed name q
good_at fixed first name (In in_port.Image) good = good
good_at fixed first name (In in_port.Script) good = good
good_at fixed first name (In in_port.Second) good = absurd good
good_at fixed first name (In in_port.Log) good = good
good_at fixed first name (Out p) good = good

good_rest : (fixed : Environment) (first : Option (List ℕ)) (name : List ℕ) (q : Port) (ports : List NamedPort)
    → (AreGoodAfter None fixed ports → AreGoodAfter first fixed ports) → AreGoodAfter (image_read fixed None name q) fixed ports
    → AreGoodAfter (image_read fixed first name q) fixed ports
good_rest fixed first name (In in_port.Image) ports later good = good
good_rest fixed first name (In in_port.Script) ports later good = later good
good_rest fixed first name (In in_port.Second) ports later good = later good
good_rest fixed first name (In in_port.Log) ports later good = later good
good_rest fixed first name (Out p) ports later good = later good

pub good_later : (fixed : Environment) (first : Option (List ℕ)) (ports : List NamedPort) → AreGood fixed ports → AreGoodAfter first fixed ports
good_later fixed first [] good = tt
good_later fixed first (p ∷ ports) good =
    (good_at fixed first p.name p.port good.0, good_rest fixed first p.name p.port ports (good_later fixed first ports) good.1)

-- what holds of the bytes that were read holds of those that are given
pub given_and : (n : ℕ) (given : Option (List ℕ)) (bytes : List ℕ) (P : List ℕ → Type 0) → option_map (take n) given ≡ Some bytes → P bytes
    → IsSomeAnd given (λ b. P (take n b))
given_and n None bytes P is holds = cc
given_and n (Some b) bytes P is holds = let same_bytes : take n b ≡ bytes = cc in subst P (sym same_bytes) holds

-- The first image of a run has been read, and the second one, where the words name it; and then others are good, or those of them
-- before a port.
module _ (fixed : Environment) (name image : List ℕ) (other : Option (List ℕ)) (is : option_map (take IMAGE_LIMIT) (fixed.given name) ≡ Some image)
    (sound : image_fault image ≡ None) where
  image_good : IsGoodAt None fixed name (In in_port.Image)
  image_good = given_and IMAGE_LIMIT (fixed.given name) image (λ l. image_fault l ≡ None) is sound

  after_image : (ports : List NamedPort) → AreGoodAfter (Some image) fixed ports → AreGoodAfter (image_read fixed None name (In in_port.Image)) fixed ports
  after_image ports good = subst (λ first. AreGoodAfter first fixed ports) (sym is) good

  pub with_image : (ports : List NamedPort) → AreGoodAfter (Some image) fixed ports → AreGood fixed (input in_port.Image name ∷ ports)
  with_image ports good = (image_good, after_image ports good)

  module _ (second : AreGoodAfter (Some image) fixed (second_inputs other)) (ports : List NamedPort) where
    pub with_images : AreGoodAfter (Some image) fixed ports → AreGood fixed (input in_port.Image name ∷ second_inputs other ++ ports)
    with_images good = with_image (second_inputs other ++ ports) (by other second)
      where
        by : (o : Option (List ℕ)) → AreGoodAfter (Some image) fixed (second_inputs o) → AreGoodAfter (Some image) fixed (second_inputs o ++ ports)
        by None second = good
        by (Some second_name) second = (second.0, good)

    pub with_images_before : (q : Port) → AreGoodAfter (Some image) fixed (ports_before ports q)
        → AreGood fixed (ports_before (input in_port.Image name ∷ second_inputs other ++ ports) q)
    with_images_before q good =
        good_first fixed None (input in_port.Image name) (second_inputs other ++ ports) q image_good (after_image (ports_before (second_inputs other ++ ports) q) (by other second))
      where
        by : (o : Option (List ℕ)) → AreGoodAfter (Some image) fixed (second_inputs o) → AreGoodAfter (Some image) fixed (ports_before (second_inputs o ++ ports) q)
        by None second = good
        by (Some second_name) second = good_first fixed (Some image) (input in_port.Second second_name) ports q second.0 good
