-- Formulas over ranges, as 01's table has them: each operation of a formula is a step. A formula has two values: `sticky`, which the engine
-- works out, and `unlimited`, in the arithmetic without a limit; `produced` are the ranges that its steps produce without a limit.
use Rattle.std.specs.Prelude.{Bool, cond, List, [], ◌∷◌, ◌++◌, ℕ}
use Rattle.range.specs.declared.Range.{Range}
use Rattle.range.specs.Arithmetic.{ends_sum, ends_neg, ends_times, ends_product, ends_inverse, ends_hull}
use Rattle.range.specs.Arithmetic.{sum_of, neg_of, times_of, product_of, inverse_of, hull_of}
use Rattle.range.specs.Power.{ends_pow, pow_of, ups_of}
use Rattle.range.specs.Sums.{ends_products, products_of, ends_squares, squares_of, ends_root, root_of}
use Rattle.range.specs.Star.{ends_star, star_of}

infixl 65 ◌⊕◌
infixl 70 ◌⊗◌
pub data Formula : Type 0 where
  -- a range that is there already
  given : Range → Formula
  -- the operations of 01, "Range arithmetic"
  ◌⊕◌ : Formula → Formula → Formula
  ◌⊗◌ : Formula → Formula → Formula
  negated : Formula → Formula
  times : ℕ → Formula → Formula
  power : Formula → ℕ → Formula
  inverse : Formula → Formula
  hull : Formula → Formula → Formula
  -- "A sum over the factors of a set is one step", of gradients that are there already
  sum_of_products : ℕ → List Range → List Range → Formula
  sum_of_squares : ℕ → List Range → Formula
  root_of_squares : ℕ → List Range → List Range → Formula
  -- 02, request 4: the bend of a product of two lines of one factor each (`ends_star` of range's Star)
  star : Formula → Formula → Formula → Formula
  -- one of two formulas, by a test
  choose : Bool → Formula → Formula → Formula

-- What the engine works out: a step that passes the limit, or takes what did, gives `over`.
abbrev pub sticky : Formula → Range
sticky (given r) = r
sticky (x ⊕ y) = sum_of (sticky x) (sticky y)
sticky (x ⊗ y) = product_of (sticky x) (sticky y)
sticky (negated x) = neg_of (sticky x)
sticky (times k x) = times_of k (sticky x)
sticky (power x e) = pow_of (sticky x) e
sticky (inverse x) = inverse_of (sticky x)
sticky (hull x y) = hull_of (sticky x) (sticky y)
sticky (sum_of_products s g h) = products_of s g h
sticky (sum_of_squares s g) = squares_of s g
sticky (root_of_squares s g h) = root_of s g h
sticky (star x y z) = star_of (sticky x) (sticky y) (sticky z)
sticky (choose c x y) = cond c (sticky x) (sticky y)

-- The value in the arithmetic without a limit: 01's ends alone.
unfoldable pub unlimited : Formula → Range
unlimited (given r) = r
unlimited (x ⊕ y) = ends_sum (unlimited x) (unlimited y)
unlimited (x ⊗ y) = ends_product (unlimited x) (unlimited y)
unlimited (negated x) = ends_neg (unlimited x)
unlimited (times k x) = ends_times k (unlimited x)
unlimited (power x e) = ends_pow (unlimited x) e
unlimited (inverse x) = ends_inverse (unlimited x)
unlimited (hull x y) = ends_hull (unlimited x) (unlimited y)
unlimited (sum_of_products s g h) = ends_products s g h
unlimited (sum_of_squares s g) = ends_squares s g
unlimited (root_of_squares s g h) = ends_root s g h
unlimited (star x y z) = ends_star (unlimited x) (unlimited y) (unlimited z)
unlimited (choose c x y) = cond c (unlimited x) (unlimited y)

-- The steps of `times 2 x`, from those of x and its value: an end of twice a range passes the limit exactly where one of the range passes half
-- of it (`half-iff` of Sharper).
abbrev pub doubled : List Range → Range → List Range
doubled rs r = rs ++ (ends_times 2 r ∷ [])

-- The ranges that its steps produce: refusal 12 speaks of their ends. Of a power "every U value used, at each step, counts as an end"; of a
-- sum over a set "only its total counts"; "β counts as an end and the two sums do not"; of `star`, twice A, B and C ("Refusal 12 is also given at
-- that line when an end of A, B or C passes 1,000,000,000 units, either sign"), while "R and R' are no ends". A formula that stands twice in a row
-- is listed twice, to no effect; of `choose`, the steps of the formula taken are listed alone.
unfoldable pub produced : Formula → List Range
produced (given r) = []
produced (x ⊕ y) = produced x ++ (produced y ++ (unlimited (x ⊕ y) ∷ []))
produced (x ⊗ y) = produced x ++ (produced y ++ (unlimited (x ⊗ y) ∷ []))
produced (negated x) = produced x ++ (unlimited (negated x) ∷ [])
produced (times k x) = produced x ++ (unlimited (times k x) ∷ [])
produced (power x e) = produced x ++ (ups_of (unlimited x) e ++ (unlimited (power x e) ∷ []))
produced (inverse x) = produced x ++ (unlimited (inverse x) ∷ [])
produced (hull x y) = produced x ++ (produced y ++ (unlimited (hull x y) ∷ []))
produced (sum_of_products s g h) = unlimited (sum_of_products s g h) ∷ []
produced (sum_of_squares s g) = unlimited (sum_of_squares s g) ∷ []
produced (root_of_squares s g h) = unlimited (root_of_squares s g h) ∷ []
produced (star x y z) =
    doubled (produced x) (unlimited x) ++ (doubled (produced y) (unlimited y)
    ++ (doubled (produced z) (unlimited z) ++ (unlimited (star x y z) ∷ [])))
produced (choose c x y) = cond c (produced x) (produced y)
