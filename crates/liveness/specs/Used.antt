-- Which lines are used. 02, request 1: "operation lines that the last line doesn't use, directly or through others, are dropped".
use Rattle.std.specs.Prelude.{ℕ, suc, ◌+◌, ◌-◌, ◌<◌, Bool, true, ◌&&◌, ◌||◌, List, [], ◌∷◌, ◌≡◌, eqb, get_or}
use Rattle.codelist.specs.declared.Codelist.{Codelist}
use Rattle.codelist.specs.declared.Entry.{Entry}
use Rattle.codelist.specs.declared.Op.{Op}
use Rattle.codelist.specs.declared.Op.TheVariants.{Add, Mul, AddC, MulC, Pow, Inv}
use Rattle.codelist.specs.Codelist.{blank}
use Rattle.rules.specs.Run.{operations}

-- the operation refers to line i
abbrev pub refers_to : Op → ℕ → Bool
refers_to (Add j k) i = eqb i j || eqb i k
refers_to (Mul j k) i = eqb i j || eqb i k
refers_to (AddC j c) i = eqb i j
refers_to (MulC j c) i = eqb i j
refers_to (Pow j m) i = eqb i j
refers_to (Inv j) i = eqb i j

-- the number of a codelist's lines, which is that of its last line
abbrev pub lines : Codelist → ℕ
lines c = c.factors + c.count

-- the operation of line k
abbrev pub op_at : Codelist → ℕ → Op
op_at c k = (get_or (operations c) (k - c.factors - 1) blank).op

-- LINE i IS USED: it is the last one, or an operation line that is used refers to it
pub data Used (c : Codelist) : ℕ → Type 0 where
  last : Used c (lines c)
  through : {k i : ℕ} → Used c k → c.factors < k → refers_to (op_at c k) i ≡ true → Used c i

-- The same, computed from the back: by the operations os, the first of which is line e + 1, "the last line" being the last of them
unfoldable pub used_by : ℕ → List Entry → ℕ → Bool
used_by e [] i = eqb i e
used_by e (o ∷ os) i = used_by (suc e) os i || (used_by (suc e) os (suc e) && refers_to o.op i)

unfoldable pub used : Codelist → ℕ → Bool
used c i = used_by c.factors (operations c) i
