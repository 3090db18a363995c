-- Narrower formulas, rows and lines. Two formulas of one shape, whose given ranges and slopes are narrower in the first: so is what it comes to
-- (`sticky-narrower`, by induction). Each row of the table over narrower lines is such, since its sets and tests see sets alone. Assumes
-- nothing.
use mathlib.Core.Bool.{Bool, true, false}
use mathlib.Core.List.{List}
use Prim.Native.Nat.{ℕ, ◌-◌}
use lib.Dec.{eqb}
use lib.IntN.{ℤ}
use Rattle.codelist.specs.declared.Op.{Op}
use Rattle.codelist.specs.declared.Op.TheVariants.{Add, Mul, AddC, MulC, Pow, Inv}
use Rattle.codelist.specs.Exchange.{OneByOne, none, more}
use Rattle.codelist.proofs.OneByOne.{each_at}
use Rattle.range.specs.declared.Range.{Range}
use Rattle.range.specs.Limit.{from_to, zero_range}
use Rattle.range.specs.Sums.{at}
use Rattle.range.specs.Laws.{◌⊑◌, Narrower, Isotonicity}
use Rattle.range.proofs.Laws.{laws}
use Rattle.range.proofs.Within.{⊑_refl}
use Rattle.rules.specs.declared.Line.{Line}
use Rattle.rules.specs.Formula.{Formula, given, ◌⊕◌, ◌⊗◌, negated, times, power, inverse, hull, choose, sticky}
use Rattle.rules.specs.Formula.{sum_of_products, sum_of_squares, root_of_squares, star}
use Rattle.rules.specs.Sets.{◌∪◌, apart, is_single, only}
use Rattle.rules.specs.Table.{extended, spectrum_of_sum, square_spectrum, cross_spectrum, Row, eight, line_of}
use Rattle.rules.specs.Table.{factor_row, add_row, addc_row, mulc_row, mul_row, pow_row, inv_row}
use Rattle.rules.specs.Run.{no_line, line, row_of}

-- ---- slopes
abbrev pub Slopes : List Range → List Range → Type 0
Slopes g h = OneByOne ◌⊑◌ g h

pub slope-narrower : {g h : List Range} → Slopes g h → (a : ℕ) → at g a ⊑ at h a
slope-narrower n a = each_at ◌⊑◌ (⊑_refl zero_range) n a

over-set : {g h : List Range} (s : ℕ) → Slopes g h → Narrower s g h
over-set s n = record { each = λ a l t. slope-narrower n a }

-- ════ formulas ════

infix 4 ◌≼◌
pub data ◌≼◌ : Formula → Formula → Type 0 where
  held : {r s : Range} → r ⊑ s → given r ≼ given s
  sum : {x y u v : Formula} → x ≼ u → y ≼ v → x ⊕ y ≼ u ⊕ v
  product : {x y u v : Formula} → x ≼ u → y ≼ v → x ⊗ y ≼ u ⊗ v
  negation : {x u : Formula} → x ≼ u → negated x ≼ negated u
  multiple : {x u : Formula} (k : ℕ) → x ≼ u → times k x ≼ times k u
  powers : {x u : Formula} (e : ℕ) → x ≼ u → power x e ≼ power u e
  inverses : {x u : Formula} → x ≼ u → inverse x ≼ inverse u
  hulls : {x y u v : Formula} → x ≼ u → y ≼ v → hull x y ≼ hull u v
  products : {f g h k : List Range} (s : ℕ) → Slopes f h → Slopes g k → sum_of_products s f g ≼ sum_of_products s h k
  squares : {f h : List Range} (s : ℕ) → Slopes f h → sum_of_squares s f ≼ sum_of_squares s h
  root : {f g h k : List Range} (s : ℕ) → Slopes f h → Slopes g k → root_of_squares s f g ≼ root_of_squares s h k
  stars : {x y z u v w : Formula} → x ≼ u → y ≼ v → z ≼ w → star x y z ≼ star u v w
  choice : {x y u v : Formula} (c : Bool) → x ≼ u → y ≼ v → choose c x y ≼ choose c u v

abbrev I : Isotonicity
I = laws.isotonicity

pub sticky-narrower : {x u : Formula} → x ≼ u → sticky x ⊑ sticky u
sticky-narrower (held n) = n
sticky-narrower (sum m n) = I.sum (sticky-narrower m) (sticky-narrower n)
sticky-narrower (product m n) = I.product (sticky-narrower m) (sticky-narrower n)
sticky-narrower (negation n) = I.negation (sticky-narrower n)
sticky-narrower (multiple k n) = I.multiple k (sticky-narrower n)
sticky-narrower (powers e n) = I.power e (sticky-narrower n)
sticky-narrower (inverses n) = I.inverse (sticky-narrower n)
sticky-narrower (hulls m n) = I.hull (sticky-narrower m) (sticky-narrower n)
sticky-narrower (products s m n) = I.products (over-set s m) (over-set s n)
sticky-narrower (squares s n) = I.squares (over-set s n)
sticky-narrower (root s m n) = I.root (over-set s m) (over-set s n)
sticky-narrower (stars l m n) = I.star (sticky-narrower l) (sticky-narrower m) (sticky-narrower n)
sticky-narrower (choice true m n) = sticky-narrower m
sticky-narrower (choice false m n) = sticky-narrower n

exactly : (r : Range) → given r ≼ given r
exactly r = held (⊑_refl r)

-- ---- spectra
pub extended-narrower : {x u : Formula} (b c : ℕ) → x ≼ u → extended x b c ≼ extended u b c
extended-narrower b c n = choice (eqb b c) n (hulls n (exactly zero_range))

join-narrower : {x y u v : Formula} (b c : ℕ) → x ≼ u → y ≼ v → spectrum_of_sum x b y c ≼ spectrum_of_sum u b v c
join-narrower b c m n = choice (apart b c) (hulls m n) (sum (extended-narrower b (b ∪ c) m) (extended-narrower c (b ∪ c) n))

square-narrower : {g h : List Range} (s : ℕ) → Slopes g h → square_spectrum s g ≼ square_spectrum s h
square-narrower s n = choice (is_single s) (powers 2 (held (slope-narrower n (only s)))) (squares s n)

cross-narrower : {f g h k : List Range} (s : ℕ) → Slopes f h → Slopes g k → cross_spectrum s f g ≼ cross_spectrum s h k
cross-narrower s m n =
    choice (is_single s)
    (multiple 2 (product (held (slope-narrower m (only s))) (held (slope-narrower n (only s)))))
    (sum (products s m n) (root s m n))

-- ════ rows and lines ════

-- the same sets P and B, and V, each slope and E narrower
pub data NarrowerRow : Row → Row → Type 0 where
  row : {v w e f : Formula} {g h : ℕ → Formula} (p b : ℕ) → v ≼ w → ((a : ℕ) → g a ≼ h a) → e ≼ f
      → NarrowerRow
      (record { value = v; slope = g; support = p; nonlinear = b; spectrum = e })
      (record { value = w; slope = h; support = p; nonlinear = b; spectrum = f })

pub data NarrowerLine : Line → Line → Type 0 where
  narrower : {v w e f : Range} {g h : List Range} (p b : ℕ) → v ⊑ w → Slopes g h → e ⊑ f
      → NarrowerLine
      (record { value = v; gradient = g; support = p; nonlinear = b; spectrum = e })
      (record { value = w; gradient = h; support = p; nonlinear = b; spectrum = f })

eight-narrower : (g h : ℕ → Range) → ((a : ℕ) → g a ⊑ h a) → Slopes (eight g) (eight h)
eight-narrower g h n = more (n 0) (more (n 1) (more (n 2) (more (n 3) (more (n 4) (more (n 5) (more (n 6) (more (n 7) none)))))))

pub line-narrower : {r s : Row} → NarrowerRow r s → NarrowerLine (line_of r) (line_of s)
unfolding line_of
line-narrower (row p b v g e) =
    narrower p b (sticky-narrower v) (eight-narrower _ _ (λ a. sticky-narrower (g a))) (sticky-narrower e)

pub no-line-narrower : NarrowerLine no_line no_line
unfolding no_line
no-line-narrower = let z = ⊑_refl zero_range in narrower _ _ z (eight-narrower _ _ (λ a. z)) z

-- ---- the table
pub factor-narrower : (f i : ℕ) {r s : Range} → r ⊑ s → NarrowerRow (factor_row f i r) (factor_row f i s)
unfolding factor_row
factor-narrower f i n = row _ _ (held n) (λ a. exactly _) (exactly zero_range)

addc-narrower : {x y : Line} (c : ℤ) → NarrowerLine x y → NarrowerRow (addc_row x c) (addc_row y c)
unfolding addc_row
addc-narrower c (narrower p b v g e) = row p b (sum (held v) (exactly (from_to c c))) (λ a. held (slope-narrower g a)) (held e)

mulc-narrower : {x y : Line} (c : ℤ) → NarrowerLine x y → NarrowerRow (mulc_row x c) (mulc_row y c)
unfolding mulc_row
mulc-narrower c (narrower p b v g e) =
    let k = exactly (from_to c c) in
    row p b (product k (held v)) (λ a. product k (held (slope-narrower g a))) (product k (held e))

pow-narrower : {x y : Line} (m : ℕ) → NarrowerLine x y → NarrowerRow (pow_row x m) (pow_row y m)
unfolding pow_row
pow-narrower m (narrower p b v g e) =
    let s = p ∪ b in
    row p s (powers m (held v))
    (λ a. multiple m (product (powers (m - 1) (held v)) (held (slope-narrower g a))))
    (multiple m (product (powers (m - 2) (held v))
    (sum (multiple (m - 1) (square-narrower s g)) (product (held v) (extended-narrower b s (held e))))))

inv-narrower : {x y : Line} → NarrowerLine x y → NarrowerRow (inv_row x) (inv_row y)
unfolding inv_row
inv-narrower (narrower p b v g e) =
    let k = inverses (held v) in
    let k² = powers 2 k in
    let s = p ∪ b in
    row p s k
    (λ a. negation (product k² (held (slope-narrower g a))))
    (product k² (sum (multiple 2 (product k (square-narrower s g))) (negation (extended-narrower b s (held e)))))

add-narrower : {x y u w : Line} → NarrowerLine x y → NarrowerLine u w → NarrowerRow (add_row x u) (add_row y w)
unfolding add_row
add-narrower (narrower p b v g e) (narrower q c t h f) =
    row (p ∪ q) (b ∪ c) (sum (held v) (held t))
    (λ a. sum (held (slope-narrower g a)) (held (slope-narrower h a)))
    (join-narrower b c (held e) (held f))

mul-narrower : {x y u w : Line} → NarrowerLine x y → NarrowerLine u w → NarrowerRow (mul_row x u) (mul_row y w)
unfolding mul_row
mul-narrower (narrower p b v g e) (narrower q c t h f) =
    let r = p ∪ b in
    let u = q ∪ c in
    let A = product (held t) (held e) in
    let B = product (held v) (held f) in
    row (p ∪ q) (r ∪ u) (product (held v) (held t))
    (λ a. sum (product (held v) (held (slope-narrower h a))) (product (held t) (held (slope-narrower g a))))
    (choice _
    (stars A B (product (held (slope-narrower g (only r))) (held (slope-narrower h (only u)))))
    (sum (cross-narrower (r ∪ u) g h) (extended-narrower (b ∪ c) (r ∪ u) (join-narrower b c A B))))

-- an operation, over narrower lines
pub row-narrower : (o : Op) (ks ls : List Line) → ((i : ℕ) → NarrowerLine (line ks i) (line ls i)) → NarrowerRow (row_of o ks) (row_of o ls)
unfolding row_of
row-narrower (Add i j) ks ls n = add-narrower (n i) (n j)
row-narrower (Mul i j) ks ls n = mul-narrower (n i) (n j)
row-narrower (AddC i c) ks ls n = addc-narrower c (n i)
row-narrower (MulC i c) ks ls n = mulc-narrower c (n i)
row-narrower (Pow i m) ks ls n = pow-narrower m (n i)
row-narrower (Inv i) ks ls n = inv-narrower (n i)
