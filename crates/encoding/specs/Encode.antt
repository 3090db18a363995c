-- A codelist as 512 bytes at fixed offsets. 02, request 10; the table stands in docs/STATE.md.
use Rattle.std.specs.Prelude.{ℕ, suc, ◌+◌, ◌-◌, ◌*◌, List, [], ◌∷◌, ◌++◌, ℤ, pos, negsuc, take, replicate}
use Rattle.codelist.specs.declared.Codelist.{Codelist}
use Rattle.codelist.specs.declared.Entry.{Entry}
use Rattle.codelist.specs.declared.Op.{Op}
use Rattle.codelist.specs.declared.Op.TheVariants.{Add, Mul, AddC, MulC, Pow, Inv}
use Rattle.codelist.specs.declared.Year.{Year}
use Rattle.codelist.specs.declared.Year.TheVariants.{Y2016, Y2014}
use Rattle.exact.specs.Units.{limit}
use Rattle.encoding.specs.Bytes.{low_first}

-- "the constant plus 2,000,000,000", of a constant within the limit
abbrev pub shifted : ℤ → ℕ
shifted (pos n) = limit + n
shifted (negsuc n) = limit - suc n

-- "its kind (1 add, 2 mul, 3 addc, 4 mulc, 5 pow, 6 inv), i, then j or m (else 0), 0, then for addc and mulc the
-- constant plus 2,000,000,000 in four bytes, lowest first (else zeros)"
abbrev pub fields : ℕ → ℕ → ℕ → ℕ → List ℕ
fields kind i j u = kind ∷ i ∷ j ∷ 0 ∷ low_first 4 u

abbrev pub op_bytes : Op → List ℕ
op_bytes (Add i j) = fields 1 i j 0
op_bytes (Mul i j) = fields 2 i j 0
op_bytes (AddC i c) = fields 3 i 0 (shifted c)
op_bytes (MulC i c) = fields 4 i 0 (shifted c)
op_bytes (Pow i m) = fields 5 i m 0
op_bytes (Inv i) = fields 6 i 0 0

-- "operation k, from 0, at 8 + 8k"
unfoldable pub ops_bytes : List Entry → List ℕ
ops_bytes [] = []
ops_bytes (x ∷ xs) = op_bytes x.op ++ ops_bytes xs

-- "2 the year (0 for 2016, 1 for 2014)"
abbrev pub year_byte : Year → ℕ
year_byte Y2016 = 0
year_byte Y2014 = 1

-- "0 the factors, 1 the operations, 2 the year, 3 to 7 zero"
abbrev pub head_bytes : ℕ → ℕ → ℕ → List ℕ
head_bytes factors count year = factors ∷ count ∷ year ∷ 0 ∷ 0 ∷ 0 ∷ 0 ∷ 0 ∷ []

-- A CODELIST AS BYTES: "every further byte is zero. 63 operations fit, the most there can be."
unfoldable pub encoded : Codelist → List ℕ
encoded c =
    head_bytes c.factors c.count (year_byte c.year)
    ++ (ops_bytes (take c.count c.ops) ++ replicate (504 - 8 * c.count) 0)
