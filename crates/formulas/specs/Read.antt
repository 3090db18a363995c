-- The readers: what each finds at the front of the bytes that are left, a part of a tree, or the place where no formula can go on. That they find
-- exactly the formulas, and exactly the place of Viable, are theorems (proofs/).
use Rattle.std.specs.Prelude.{ℕ, suc, zero, ◌+◌, ◌-◌, Bool, true, false, cond, ◌&&◌, List, [], ◌∷◌, leb, ltb, eqb, length}
use Rattle.std.proofs.Math.Option.{Option, none, some}
use Rattle.codelist.specs.Read.{peek, rest, digit}
use Rattle.formulas.specs.Grammar.{Tree, factor, constant, bracket, power, join, Sign, plus, minus, times, over, deepest, longest}

-- What a reader gives: what it read and the bytes that are left; or the bytes from the one on that can't follow
pub data Found (A : Type 0) : Type 0 where
  good : A → List ℕ → Found A
  stuck : List ℕ → Found A

abbrev pub and_then : {A B : Type 0} → Found A → (A → List ℕ → Found B) → Found B
and_then (good a s) f = f a s
and_then (stuck s) f = stuck s

-- ════ constants ════

-- At most so many digits
unfoldable pub digits_up_to : ℕ → List ℕ → Found (List ℕ)
digits_up_to zero s = good [] s
digits_up_to (suc k) s =
    cond (ltb (digit (peek s)) 10) (and_then (digits_up_to k (rest s)) (λ ds t. good (digit (peek s) ∷ ds) t)) (good [] s)

-- A digit, and at most k more
unfoldable pub digit_and : ℕ → List ℕ → Found (List ℕ)
digit_and k s =
    cond (ltb (digit (peek s)) 10) (and_then (digits_up_to k (rest s)) (λ ds t. good (digit (peek s) ∷ ds) t)) (stuck s)

-- "one to six digits and, where a point follows, one to four more"
unfoldable pub decimals_after : List ℕ → List ℕ → Found Tree
decimals_after w s =
    cond (eqb (peek s) 46) (and_then (digit_and 3 (rest s)) (λ p t. good (constant w p) t)) (good (constant w []) s)

unfoldable pub constant_at : List ℕ → Found Tree
constant_at s = and_then (digit_and 5 s) decimals_after

-- ════ atoms ════

-- after `f`: a digit 1 to 8
unfoldable pub factor_at : List ℕ → Found Tree
factor_at s = cond (leb 49 (peek s) && leb (peek s) 56) (good (factor (digit (peek s))) (rest s)) (stuck s)

-- a factor or a constant
unfoldable pub leaf_at : List ℕ → Found Tree
leaf_at s = cond (eqb (peek s) 102) (factor_at (rest s)) (constant_at s)

-- the bracket that closes
unfoldable pub closed : Tree → List ℕ → Found Tree
closed t s = cond (eqb (peek s) 41) (good (bracket t) (rest s)) (stuck s)

-- a bracket where its byte stands, with what it holds read by `inner`; else a leaf
abbrev pub bracket_or : Bool → (List ℕ → Found Tree) → List ℕ → Found Tree
bracket_or true inner s = and_then (inner (rest s)) closed
bracket_or false inner s = leaf_at s

-- ════ powers, products, sums, each over a reader of atoms ════

unfoldable pub exponent : Tree → List ℕ → Found Tree
exponent t s = cond (ltb (digit (peek s)) 10) (good (power t (digit (peek s))) (rest s)) (stuck s)

-- "only one `^` may follow an atom"
unfoldable pub exponent_after : Tree → List ℕ → Found Tree
exponent_after t s = cond (eqb (peek s) 94) (exponent t (rest s)) (good t s)

unfoldable pub powered_at : (List ℕ → Found Tree) → List ℕ → Found Tree
powered_at a s = and_then (a s) exponent_after

-- the sign that a byte is, of the two that join products, or factors of a product
unfoldable pub sum_sign : ℕ → Option Sign
sum_sign b = cond (eqb b 43) (some plus) (cond (eqb b 45) (some minus) none)

unfoldable pub product_sign : ℕ → Option Sign
product_sign b = cond (eqb b 42) (some times) (cond (eqb b 47) (some over) none)

abbrev pub on_sign : Option Sign → Found Tree → (Sign → Found Tree) → Found Tree
on_sign none x f = x
on_sign (some o) x f = f o

-- Further operands after x, each behind a sign: "all from the left". At most k of them, and there are never more than bytes.
unfoldable pub chain : (ℕ → Option Sign) → (List ℕ → Found Tree) → ℕ → Tree → List ℕ → Found Tree
chain signs a zero x s = good x s
chain signs a (suc k) x s =
    on_sign (signs (peek s)) (good x s) (λ o. and_then (a (rest s)) (λ y t. chain signs a k (join o x y) t))

unfoldable pub product_at : (List ℕ → Found Tree) → List ℕ → Found Tree
product_at a s = and_then (powered_at a s) (λ x t. chain product_sign (powered_at a) (length t) x t)

unfoldable pub sum_at : (List ℕ → Found Tree) → List ℕ → Found Tree
sum_at a s = and_then (product_at a s) (λ x t. chain sum_sign (product_at a) (length t) x t)

-- An atom, with room for so many brackets inside one another
unfoldable pub atom_at : ℕ → List ℕ → Found Tree
atom_at zero s = leaf_at s
atom_at (suc room) s = bracket_or (eqb (peek s) 40) (λ t. sum_at (λ u. atom_at room u) t) s

-- ════ the whole text ════

-- A tree, or the place of refusal 19
pub data Parsed : Type 0 where
  tree : Tree → Parsed
  fault : ℕ → Parsed

-- the place of what is left, in a text of so many bytes
abbrev pub place_in : ℕ → List ℕ → ℕ
place_in n u = n - length u + 1

abbrev pub ended : ℕ → Found Tree → Parsed
ended n (good t []) = tree t
ended n (good t (b ∷ u)) = fault (place_in n (b ∷ u))
ended n (stuck u) = fault (place_in n u)

unfoldable pub parse : List ℕ → Parsed
parse s = cond (leb (length s) longest) (ended (length s) (sum_at (atom_at deepest) s)) (fault (longest + 1))
