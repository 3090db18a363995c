-- 02, request 10: figures from the definitions themselves, by computing. docs/STATE.md has the first.
use Rattle.std.specs.Prelude.{ℕ, ◌-◌, List, [], ◌∷◌, ◌++◌, map, ◌≡◌, refl, pos, negsuc, length, replicate}
use Rattle.std.proofs.Math.Option.{Option, none, some}
use Rattle.codelist.specs.declared.Codelist.{Codelist}
use Rattle.codelist.specs.declared.Op.{Op}
use Rattle.codelist.specs.declared.Op.TheVariants.{Add, Mul, AddC, MulC, Pow, Inv}
use Rattle.codelist.specs.declared.Year.{Year}
use Rattle.codelist.specs.declared.Year.TheVariants.{Y2016, Y2014}
use Rattle.codelist.specs.Load.{codelist_of}
use Rattle.encoding.specs.Bytes.{are_bytes, are_zero, low_first, number_of}
use Rattle.encoding.specs.Encode.{ops_bytes, encoded}
use Rattle.encoding.specs.Decode.{head_of, formed, operation, op_at, ops_from, decoded}

abbrev codelist : Year → ℕ → List Op → Codelist
codelist y n os = codelist_of y n (map (λ o. record { op = o }) os)

-- 512 bytes that begin so
abbrev lent : List ℕ → List ℕ
lent s = s ++ replicate (512 - length s) 0

-- Bytes, and what they hold
pub record Figure : Type 0 where
  pub bytes : List ℕ
  pub holds : Option Codelist

abbrev held : List ℕ → Codelist → Figure
held s c = record { bytes = lent s; holds = some c }

abbrev empties : List ℕ → Figure
empties s = record { bytes = s; holds = none }

-- The dinghies' sheet, and one with the operations that it has not, at the limits of its constants, of 2014
pub encodings : List Figure
encodings =
    held
    (2 ∷ 5 ∷ 0 ∷ 0 ∷ 0 ∷ 0 ∷ 0 ∷ 0 ∷ 5 ∷ 1 ∷ 2 ∷ 0 ∷ 0 ∷ 0 ∷ 0 ∷ 0 ∷ 4 ∷ 3 ∷ 0 ∷ 0 ∷ 152 ∷ 206 ∷ 53 ∷ 119 ∷ 4 ∷ 2 ∷ 0 ∷ 0 ∷ 192 ∷ 116 ∷ 53 ∷ 119
    ∷ 1 ∷ 4 ∷ 5 ∷ 0 ∷ 0 ∷ 0 ∷ 0 ∷ 0 ∷ 3 ∷ 6 ∷ 0 ∷ 0 ∷ 64 ∷ 161 ∷ 56 ∷ 119 ∷ [])
    (codelist Y2016 2 (Pow 1 2 ∷ MulC 3 (pos 15000) ∷ MulC 2 (negsuc 7999) ∷ Add 4 5 ∷ AddC 6 (pos 200000) ∷ []))
    ∷ held
    (1 ∷ 4 ∷ 1 ∷ 0 ∷ 0 ∷ 0 ∷ 0 ∷ 0 ∷ 6 ∷ 1 ∷ 0 ∷ 0 ∷ 0 ∷ 0 ∷ 0 ∷ 0 ∷ 2 ∷ 1 ∷ 2 ∷ 0 ∷ 0 ∷ 0 ∷ 0 ∷ 0 ∷ 3 ∷ 3 ∷ 0 ∷ 0 ∷ 0 ∷ 0 ∷ 0 ∷ 0
    ∷ 4 ∷ 4 ∷ 0 ∷ 0 ∷ 0 ∷ 40 ∷ 107 ∷ 238 ∷ [])
    (codelist Y2014 1 (Inv 1 ∷ Mul 1 2 ∷ AddC 3 (negsuc 1_999_999_999) ∷ MulC 4 (pos 2_000_000_000) ∷ []))
    ∷ []

-- Zeros; other lengths; no operation; a year that is none; a byte that is not zero, in the head, in an operation and behind the last; no kind; a line that is
-- not earlier; an exponent; a constant beyond the limit, and 0 in `mulc`
pub others : List Figure
others =
    empties (replicate 512 0)
    ∷ empties (1 ∷ 1 ∷ 0 ∷ 0 ∷ 0 ∷ 0 ∷ 0 ∷ 0 ∷ 6 ∷ 1 ∷ replicate 501 0)
    ∷ empties (1 ∷ 1 ∷ 0 ∷ 0 ∷ 0 ∷ 0 ∷ 0 ∷ 0 ∷ 6 ∷ 1 ∷ replicate 503 0)
    ∷ empties (lent (1 ∷ []))
    ∷ empties (lent (1 ∷ 1 ∷ 2 ∷ 0 ∷ 0 ∷ 0 ∷ 0 ∷ 0 ∷ 6 ∷ 1 ∷ []))
    ∷ empties (lent (1 ∷ 1 ∷ 0 ∷ 0 ∷ 0 ∷ 0 ∷ 0 ∷ 1 ∷ 6 ∷ 1 ∷ []))
    ∷ empties (lent (1 ∷ 1 ∷ 0 ∷ 0 ∷ 0 ∷ 0 ∷ 0 ∷ 0 ∷ 6 ∷ 1 ∷ 1 ∷ []))
    ∷ empties (lent (1 ∷ 1 ∷ 0 ∷ 0 ∷ 0 ∷ 0 ∷ 0 ∷ 0 ∷ 6 ∷ 1 ∷ 0 ∷ 0 ∷ 0 ∷ 0 ∷ 0 ∷ 0 ∷ 1 ∷ []))
    ∷ empties (lent (1 ∷ 1 ∷ 0 ∷ 0 ∷ 0 ∷ 0 ∷ 0 ∷ 0 ∷ 7 ∷ 1 ∷ []))
    ∷ empties (lent (1 ∷ 1 ∷ 0 ∷ 0 ∷ 0 ∷ 0 ∷ 0 ∷ 0 ∷ 6 ∷ 2 ∷ []))
    ∷ empties (lent (1 ∷ 1 ∷ 0 ∷ 0 ∷ 0 ∷ 0 ∷ 0 ∷ 0 ∷ 5 ∷ 1 ∷ 9 ∷ []))
    ∷ empties (lent (1 ∷ 1 ∷ 0 ∷ 0 ∷ 0 ∷ 0 ∷ 0 ∷ 0 ∷ 3 ∷ 1 ∷ 0 ∷ 0 ∷ 1 ∷ 40 ∷ 107 ∷ 238 ∷ []))
    ∷ empties (lent (1 ∷ 1 ∷ 0 ∷ 0 ∷ 0 ∷ 0 ∷ 0 ∷ 0 ∷ 4 ∷ 1 ∷ 0 ∷ 0 ∷ 0 ∷ 148 ∷ 53 ∷ 119 ∷ []))
    ∷ []

-- What each is worked out to
pub decodings : List Figure
decodings = map (λ f. record { bytes = f.bytes; holds = decoded f.bytes }) (encodings ++ others)

pub decoded-right : decodings ≡ encodings ++ others
unfolding decodings encodings others decoded head_of are_bytes are_zero number_of formed operation op_at ops_from codelist_of
decoded-right = refl

abbrev bytes_of : Option Codelist → List ℕ
bytes_of (some c) = encoded c
bytes_of none = []

pub encoded-right : map (λ f. bytes_of f.holds) encodings ≡ map (λ f. f.bytes) encodings
unfolding encodings encoded ops_bytes low_first codelist_of
encoded-right = refl
