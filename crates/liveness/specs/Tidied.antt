-- The codelist without the operations that the last line does not use: "the rest renumbered in order, all factors kept". 02, request 1.
use Rattle.std.specs.Prelude.{ℕ, zero, suc, Bool, cond, ◌||◌, List, [], ◌∷◌, map, leb}
use Rattle.codelist.specs.declared.Codelist.{Codelist}
use Rattle.codelist.specs.declared.Entry.{Entry}
use Rattle.codelist.specs.declared.Op.{Op}
use Rattle.codelist.specs.declared.Op.TheVariants.{Add, Mul, AddC, MulC, Pow, Inv}
use Rattle.codelist.specs.Load.{codelist_of}
use Rattle.rules.specs.Run.{operations}
use Rattle.liveness.specs.Used.{used}

-- line i is kept: it is a factor, or used
unfoldable pub kept : Codelist → ℕ → Bool
kept c i = leb i c.factors || used c i

-- of a list, the first member of which is at line e + 1, the members at kept lines
unfoldable pub picked : {A : Type 0} → (ℕ → Bool) → ℕ → List A → List A
picked k e [] = []
picked k e (x ∷ xs) = cond (k (suc e)) (x ∷ picked k (suc e) xs) (picked k (suc e) xs)

-- a line's new number: how many of the lines up to it are kept
unfoldable pub position : (ℕ → Bool) → ℕ → ℕ
position k zero = 0
position k (suc i) = cond (k (suc i)) (suc (position k i)) (position k i)

-- an operation with each reference i replaced by f i
abbrev pub renumbered : (ℕ → ℕ) → Op → Op
renumbered f (Add i j) = Add (f i) (f j)
renumbered f (Mul i j) = Mul (f i) (f j)
renumbered f (AddC i c) = AddC (f i) c
renumbered f (MulC i c) = MulC (f i) c
renumbered f (Pow i m) = Pow (f i) m
renumbered f (Inv i) = Inv (f i)

abbrev pub moved : (ℕ → ℕ) → Entry → Entry
moved f o = record { op = renumbered f o.op }

-- the operations os, from line e + 1 on, that are kept
unfoldable pub tidy_ops : (ℕ → Bool) → ℕ → List Entry → List Entry
tidy_ops k e os = map (moved (position k)) (picked k e os)

abbrev pub tidied_ops : Codelist → List Entry
tidied_ops c = tidy_ops (kept c) c.factors (operations c)

-- THE TIDIED CODELIST, of the same year
unfoldable pub tidied : Codelist → Codelist
tidied c = codelist_of c.year c.factors (tidied_ops c)
