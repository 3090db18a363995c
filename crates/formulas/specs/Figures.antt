-- A table of formulas, with the sheet that each becomes, line by line, or its refusal, worked out apart from these definitions. That all of it is right is
-- one test, which the checker computes.
use Rattle.std.specs.Prelude.{ℕ, Bool, true, false, ◌&&◌, List, [], ◌∷◌, ◌≡◌, refl, eqb}
use Rattle.std.proofs.Math.Option.{Option, none, some}
use Rattle.codelist.specs.declared.Numeral.{Numeral}
use Rattle.codelist.specs.Read.{peek, rest, digit}
use Rattle.codelist.specs.Text.{TextLine, Add, Mul, AddC, MulC, Pow, Inv, numeral_text, decimal}
use Rattle.codelist.specs.Write.{plain}
use Rattle.formulas.specs.Units.{units_of, number_from}
use Rattle.formulas.specs.Convert.{sheet_of, sheet_text, convert, negated, reference, count_of}
use Rattle.formulas.specs.Read.{Parsed, tree, fault, parse, atom_at, sum_at, product_at, chain, sum_sign, product_sign, powered_at}
use Rattle.formulas.specs.Read.{exponent_after, exponent, closed, leaf_at, factor_at, constant_at, decimals_after, digit_and, digits_up_to}

-- a sheet, by its count and its lines; refusal 19 with its place; refusal 20
pub data Gives : Type 0 where
  lines : ℕ → List TextLine → Gives
  no-formula : ℕ → Gives
  no-sheet : Gives

pub record Figure : Type 0 where
  pub text : List ℕ
  pub count : ℕ
  pub gives : Gives

-- ════ lines, as 01 writes them ════

abbrev pub minus : ℕ → Numeral
minus c = record { negative = true; magnitude = c }

abbrev pub add : ℕ → ℕ → TextLine
add i j = Add (plain i) (plain j)

abbrev pub mul : ℕ → ℕ → TextLine
mul i j = Mul (plain i) (plain j)

abbrev pub addc : ℕ → Numeral → TextLine
addc i c = AddC (plain i) c

abbrev pub mulc : ℕ → Numeral → TextLine
mulc i c = MulC (plain i) c

abbrev pub pow : ℕ → ℕ → TextLine
pow i m = Pow (plain i) (plain m)

abbrev pub inv : ℕ → TextLine
inv i = Inv (plain i)

-- ════ the test ════

abbrev pub same : List ℕ → List ℕ → Bool
same [] [] = true
same [] (y ∷ ys) = false
same (x ∷ xs) [] = false
same (x ∷ xs) (y ∷ ys) = eqb x y && same xs ys

-- the sheet has the text of these lines, byte for byte
abbrev pub sheet_agrees : Option (List ℕ) → Gives → Bool
sheet_agrees (some x) (lines n ls) = same x (sheet_text n ls)
sheet_agrees (some x) (no-formula p) = false
sheet_agrees (some x) no-sheet = false
sheet_agrees none (lines n ls) = false
sheet_agrees none (no-formula p) = false
sheet_agrees none no-sheet = true

abbrev pub agrees : ℕ → Parsed → Gives → Bool
agrees k (tree t) g = sheet_agrees (sheet_of k t) g
agrees k (fault p) (lines n ls) = false
agrees k (fault p) (no-formula q) = eqb p q
agrees k (fault p) no-sheet = false

abbrev pub right : List Figure → Bool
right [] = true
right (f ∷ fs) = agrees f.count (parse f.text) f.gives && right fs

-- ════ the table ════

abbrev pub figures : List Figure
figures =
    -- `0.8*f1^2+f2/(f1+1.5)`
    record {
      text = 48 ∷ 46 ∷ 56 ∷ 42 ∷ 102 ∷ 49 ∷ 94 ∷ 50 ∷ 43 ∷ 102 ∷ 50 ∷ 47 ∷ 40 ∷ 102 ∷ 49 ∷ 43 ∷ 49 ∷ 46 ∷ 53 ∷ 41 ∷ [];
      count = 2;
      gives = lines 2 (pow 1 2 ∷ mulc 3 (plain 8000) ∷ addc 1 (plain 15000) ∷ inv 5 ∷ mul 2 6 ∷ add 4 7 ∷ []);
    }
    -- `f1-0`
    ∷ record {
      text = 102 ∷ 49 ∷ 45 ∷ 48 ∷ [];
      count = 1;
      gives = lines 1 (addc 1 (plain 0) ∷ []);
    }
    -- `2-f1`
    ∷ record {
      text = 50 ∷ 45 ∷ 102 ∷ 49 ∷ [];
      count = 1;
      gives = lines 1 (mulc 1 (minus 10000) ∷ addc 2 (plain 20000) ∷ []);
    }
    -- `3/f2*f1`
    ∷ record {
      text = 51 ∷ 47 ∷ 102 ∷ 50 ∷ 42 ∷ 102 ∷ 49 ∷ [];
      count = 2;
      gives = lines 2 (inv 2 ∷ mulc 3 (plain 30000) ∷ mul 4 1 ∷ []);
    }
    -- `f1-f2-f3`
    ∷ record {
      text = 102 ∷ 49 ∷ 45 ∷ 102 ∷ 50 ∷ 45 ∷ 102 ∷ 51 ∷ [];
      count = 3;
      gives = lines 3 (mulc 2 (minus 10000) ∷ add 1 4 ∷ mulc 3 (minus 10000) ∷ add 5 6 ∷ []);
    }
    -- `f1/f2/f3`
    ∷ record {
      text = 102 ∷ 49 ∷ 47 ∷ 102 ∷ 50 ∷ 47 ∷ 102 ∷ 51 ∷ [];
      count = 3;
      gives = lines 3 (inv 2 ∷ mul 1 4 ∷ inv 3 ∷ mul 5 6 ∷ []);
    }
    -- `(2)*(f1+(f9-`
    ∷ record {
      text = 40 ∷ 50 ∷ 41 ∷ 42 ∷ 40 ∷ 102 ∷ 49 ∷ 43 ∷ 40 ∷ 102 ∷ 57 ∷ 45 ∷ [];
      count = 2;
      gives = no-formula 11;
    }
    -- `((1.25))+f1^2*f2`
    ∷ record {
      text = 40 ∷ 40 ∷ 49 ∷ 46 ∷ 50 ∷ 53 ∷ 41 ∷ 41 ∷ 43 ∷ 102 ∷ 49 ∷ 94 ∷ 50 ∷ 42 ∷ 102 ∷ 50 ∷ [];
      count = 2;
      gives = lines 2 (pow 1 2 ∷ mul 3 2 ∷ addc 4 (plain 12500) ∷ []);
    }
    -- `f1*2*3`
    ∷ record {
      text = 102 ∷ 49 ∷ 42 ∷ 50 ∷ 42 ∷ 51 ∷ [];
      count = 1;
      gives = lines 1 (mulc 1 (plain 20000) ∷ mulc 2 (plain 30000) ∷ []);
    }
    -- `2*3*f1`
    ∷ record {
      text = 50 ∷ 42 ∷ 51 ∷ 42 ∷ 102 ∷ 49 ∷ [];
      count = 1;
      gives = no-sheet;
    }
    -- `f1/2`
    ∷ record {
      text = 102 ∷ 49 ∷ 47 ∷ 50 ∷ [];
      count = 1;
      gives = no-sheet;
    }
    -- `2^2*f1`
    ∷ record {
      text = 50 ∷ 94 ∷ 50 ∷ 42 ∷ 102 ∷ 49 ∷ [];
      count = 1;
      gives = no-sheet;
    }
    -- `(f1)`
    ∷ record {
      text = 40 ∷ 102 ∷ 49 ∷ 41 ∷ [];
      count = 1;
      gives = no-sheet;
    }
    -- `f1+f8`
    ∷ record {
      text = 102 ∷ 49 ∷ 43 ∷ 102 ∷ 56 ∷ [];
      count = 0;
      gives = lines 9 (add 1 8 ∷ []);
    }
    -- `f1+f2`
    ∷ record {
      text = 102 ∷ 49 ∷ 43 ∷ 102 ∷ 50 ∷ [];
      count = 1;
      gives = lines 1 (add 1 0 ∷ []);
    }
    -- `f1^2^3`
    ∷ record {
      text = 102 ∷ 49 ∷ 94 ∷ 50 ∷ 94 ∷ 51 ∷ [];
      count = 1;
      gives = no-formula 5;
    }
    -- `-f1`
    ∷ record {
      text = 45 ∷ 102 ∷ 49 ∷ [];
      count = 1;
      gives = no-formula 1;
    }
    -- `1234567*f1`
    ∷ record {
      text = 49 ∷ 50 ∷ 51 ∷ 52 ∷ 53 ∷ 54 ∷ 55 ∷ 42 ∷ 102 ∷ 49 ∷ [];
      count = 1;
      gives = no-formula 7;
    }
    -- `1.23456*f1`
    ∷ record {
      text = 49 ∷ 46 ∷ 50 ∷ 51 ∷ 52 ∷ 53 ∷ 54 ∷ 42 ∷ 102 ∷ 49 ∷ [];
      count = 1;
      gives = no-formula 7;
    }
    -- `f1+`
    ∷ record {
      text = 102 ∷ 49 ∷ 43 ∷ [];
      count = 1;
      gives = no-formula 4;
    }
    -- ``
    ∷ record {
      text = [];
      count = 1;
      gives = no-formula 1;
    }
    -- `1.`
    ∷ record {
      text = 49 ∷ 46 ∷ [];
      count = 1;
      gives = no-formula 3;
    }
    -- `((((((((((((((((f1+1))))))))))))))))`
    ∷ record {
      text = 40 ∷ 40 ∷ 40 ∷ 40 ∷ 40 ∷ 40 ∷ 40 ∷ 40 ∷ 40 ∷ 40 ∷ 40 ∷ 40 ∷ 40 ∷ 40 ∷ 40 ∷ 40 ∷ 102 ∷ 49 ∷ 43 ∷ 49 ∷ 41 ∷ 41 ∷ 41 ∷ 41 ∷ 41
          ∷ 41 ∷ 41 ∷ 41 ∷ 41 ∷ 41 ∷ 41 ∷ 41 ∷ 41 ∷ 41 ∷ 41 ∷ 41 ∷ [];
      count = 1;
      gives = lines 1 (addc 1 (plain 10000) ∷ []);
    }
    -- `(((((((((((((((((f1+1)))))))))))))))))`
    ∷ record {
      text = 40 ∷ 40 ∷ 40 ∷ 40 ∷ 40 ∷ 40 ∷ 40 ∷ 40 ∷ 40 ∷ 40 ∷ 40 ∷ 40 ∷ 40 ∷ 40 ∷ 40 ∷ 40 ∷ 40 ∷ 102 ∷ 49 ∷ 43 ∷ 49 ∷ 41 ∷ 41 ∷ 41 ∷ 41
          ∷ 41 ∷ 41 ∷ 41 ∷ 41 ∷ 41 ∷ 41 ∷ 41 ∷ 41 ∷ 41 ∷ 41 ∷ 41 ∷ 41 ∷ 41 ∷ [];
      count = 1;
      gives = no-formula 17;
    }
    -- `f1)`
    ∷ record {
      text = 102 ∷ 49 ∷ 41 ∷ [];
      count = 1;
      gives = no-formula 3;
    }
    -- `007*f1`
    ∷ record {
      text = 48 ∷ 48 ∷ 55 ∷ 42 ∷ 102 ∷ 49 ∷ [];
      count = 1;
      gives = lines 1 (mulc 1 (plain 70000) ∷ []);
    }
    -- `f1 +f2`
    ∷ record {
      text = 102 ∷ 49 ∷ 32 ∷ 43 ∷ 102 ∷ 50 ∷ [];
      count = 2;
      gives = no-formula 3;
    }
    -- `((1.25))+f1`
    ∷ record {
      text = 40 ∷ 40 ∷ 49 ∷ 46 ∷ 50 ∷ 53 ∷ 41 ∷ 41 ∷ 43 ∷ 102 ∷ 49 ∷ [];
      count = 1;
      gives = lines 1 (addc 1 (plain 12500) ∷ []);
    }
    -- `f1-2.5`
    ∷ record {
      text = 102 ∷ 49 ∷ 45 ∷ 50 ∷ 46 ∷ 53 ∷ [];
      count = 1;
      gives = lines 1 (addc 1 (minus 25000) ∷ []);
    }
    -- `0.5/f1`
    ∷ record {
      text = 48 ∷ 46 ∷ 53 ∷ 47 ∷ 102 ∷ 49 ∷ [];
      count = 1;
      gives = lines 1 (inv 1 ∷ mulc 2 (plain 5000) ∷ []);
    }
    -- `0*f1+f3`
    ∷ record {
      text = 48 ∷ 42 ∷ 102 ∷ 49 ∷ 43 ∷ 102 ∷ 51 ∷ [];
      count = 1;
      gives = lines 1 (mulc 1 (plain 0) ∷ add 2 0 ∷ []);
    }
    -- `f1^9`
    ∷ record {
      text = 102 ∷ 49 ∷ 94 ∷ 57 ∷ [];
      count = 1;
      gives = lines 1 (pow 1 9 ∷ []);
    }
    -- `2-(3)`
    ∷ record {
      text = 50 ∷ 45 ∷ 40 ∷ 51 ∷ 41 ∷ [];
      count = 1;
      gives = no-sheet;
    }
    -- `1.5`
    ∷ record {
      text = 49 ∷ 46 ∷ 53 ∷ [];
      count = 1;
      gives = no-sheet;
    }
    -- `f9`
    ∷ record {
      text = 102 ∷ 57 ∷ [];
      count = 1;
      gives = no-formula 2;
    }
    ∷ []

pub all_right : right figures ≡ true
unfolding parse atom_at sum_at product_at chain sum_sign product_sign powered_at exponent_after exponent closed leaf_at factor_at constant_at decimals_after digit_and digits_up_to peek rest digit sheet_of sheet_text convert negated reference count_of units_of number_from numeral_text decimal
all_right = refl
