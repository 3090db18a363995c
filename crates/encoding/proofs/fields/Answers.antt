-- `fields` meets its contract: the four bytes of a number are its lowest four.
use mathlib.Core.Path.{ap}
use mathlib.Core.List.{List, ◌∷◌}
use Prim.Native.Nat.{ℕ}
use Rattle.encoding.proofs.Numbers.{four-written}
use Rattle.encoding.proofs.fields.Goals as goal

pub returns : goal.returns
returns c =
    let a = c.args in
    rw (c.to_le_bytes.ensures) (ap (λ (s : List ℕ). a.kind ∷ a.i ∷ a.j ∷ 0 ∷ s) (four-written a.u))
