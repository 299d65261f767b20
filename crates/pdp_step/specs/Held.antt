-- What a processor that is made of registers and a memory is besides: the rest of the memory, and its loan.
use Rattle.std.specs.Borrow.{GName}

pub record Held (A : Type 0) : Type 0 where
  pub space : A
  pub loan : GName
