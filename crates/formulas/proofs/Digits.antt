-- Digits, constants and leaves: what the code reads is what `digits_up_to`, `constant_at` and `leaf_at` read.
use Prim.Native.Nat.{ℕ, suc, zero, ◌+◌, ◌-◌, ◌*◌, ◌^◌, ◌≤◌, ◌<◌}
use mathlib.Core.Bool.{true, false}
use mathlib.Core.List.{List, [], ◌∷◌, ◌++◌, append_assoc, append-nil}
use mathlib.Core.Logic.{◌⊎◌, inl, inr}
use mathlib.Core.Path.{◌≡◌, refl, sym, ap, ◌∙◌}
use native.Mathlib.Decide.{dec_lt}
use native.Mathlib.Omega.{arith}
use lib.Dec.{eqb}
use lib.ListN.{length, length-append}
use borrow.Author.Tests.{lt-ltb, le-ltb, le-leb, lt-leb, eqb-true}
use Rattle.std.specs.Borrow.{Bor}
use Rattle.std.specs.declared.option.Option.TheVariants.{Some}
use Rattle.std.specs.declared.result.Result.TheVariants.{Ok, Err}
use Rattle.codelist.specs.Read.{peek, rest, digit}
use Rattle.codelist.specs.Text.{TextLine}
use Rattle.formulas.specs.declared.lines.Operand.TheVariants as code
use Rattle.formulas.specs.declared.reader.Run.{Run}
use Rattle.formulas.specs.Grammar.{factor, constant}
use Rattle.formulas.specs.Convert.{fixed, line, operand, convert, reference}
use Rattle.formulas.specs.Units.{number_from, units_of}
use Rattle.formulas.specs.Read.{Found, good, stuck, and_then, digits_up_to, digit_and, decimals_after, constant_at, factor_at, leaf_at}
use Rattle.formulas.specs.Views.{IsDigit, IsRun, AreDigits, IsConstant, IsLeaf}
use Rattle.formulas.proofs.Grammatical.{digit-of}
use Rattle.formulas.proofs.Laws.{below-million, digit-more, digit-byte, digit-shorter, shorter}
use Rattle.formulas.proofs.Numbers.{reference-small}
use Rattle.formulas.proofs.Readers.{good-stuck}

number-snoc : (m : ℕ) (ds : List ℕ) (d : ℕ) → number_from m (ds ++ (d ∷ [])) ≡ number_from m ds * 10 + d
unfolding number_from
number-snoc m [] d = refl
number-snoc m (e ∷ ds) d = number-snoc (m * 10 + e) ds d

-- digits that were read before
abbrev pub prepend : List ℕ → Found (List ℕ) → Found (List ℕ)
prepend ds r = and_then r (λ es t. good (ds ++ es) t)

prepend-none : (r : Found (List ℕ)) → prepend [] r ≡ r
prepend-none (good es t) = refl
prepend-none (stuck t) = refl

prepend-one : (ds : List ℕ) (d : ℕ) (r : Found (List ℕ)) → prepend ds (and_then r (λ es t. good (d ∷ es) t)) ≡ prepend (ds ++ (d ∷ [])) r
prepend-one ds d (good es t) = ap (λ (l : List ℕ). good l t) (sym (append_assoc ds (d ∷ []) es))
prepend-one ds d (stuck t) = refl

-- The loop: so many digits are read, and u is left
pub record Running (s : List ℕ) (most : ℕ) (u : List ℕ) (value count : ℕ) : Type 0 where
  pub onward : length u + count ≡ length s
  pub start : count ≡ 0 → u ≡ s
  pub few : count ≤ most
  pub small : value < 10 ^ count
  pub digits : List ℕ
  pub number : value ≡ number_from 0 digits
  pub many : count ≡ length digits
  pub same : digits_up_to most s ≡ prepend digits (digits_up_to (most - count) u)

pub run-start : (s : List ℕ) (most : ℕ) → Running s most s 0 0
unfolding number_from
run-start s most = record {
  onward = omega arith;
  start = λ e. refl;
  few = omega arith;
  small = omega arith;
  digits = [];
  number = refl;
  many = refl;
  same = sym (prepend-none _ ∙ ap (λ (k : ℕ). digits_up_to k s) (omega arith));
}

step-more : (k : ℕ) (s : List ℕ) (d : ℕ) → d ≡ digit (peek s) → d < 10
    → digits_up_to (suc k) s ≡ and_then (digits_up_to k (rest s)) (λ es t. good (d ∷ es) t)
unfolding digits_up_to
step-more k s d e h = simp (← e, lt-ltb d 10 h)

step-stop : (k : ℕ) (s : List ℕ) (d : ℕ) → d ≡ digit (peek s) → 10 ≤ d → digits_up_to k s ≡ good [] s
unfolding digits_up_to
step-stop zero s d e h = refl
step-stop (suc k) s d e h = simp (← e, le-ltb d 10 h)

step-none : (k : ℕ) (s : List ℕ) → k ≡ 0 → digits_up_to k s ≡ good [] s
unfolding digits_up_to
step-none zero s e = refl
step-none (suc k) s e = absurd (omega arith)

-- and no more can be
pub record Stopped (s : List ℕ) (most : ℕ) (u : List ℕ) (value count : ℕ) : Type 0 where
  pub run : Running s most u value count
  pub stop : digits_up_to (most - count) u ≡ good [] u

module _ {s : List ℕ} {most : ℕ} {u : List ℕ} {value count : ℕ} (g : Running s most u value count) where
  pub run_more : {d : ℕ} {v : List ℕ} → digit (peek u) ≡ d → d < 10 → rest u ≡ v → count < most → Running s most v (value * 10 + d) (count + 1)
  run_more {d} {v} e h f l = record {
    onward = omega (arith, g.onward, digit-shorter u d e h, ap length f);
    start = λ z. absurd (omega arith);
    few = omega arith;
    small = digit-more value count d g.small h;
    digits = g.digits ++ (d ∷ []);
    number = ap (λ (v : ℕ). v * 10 + d) g.number ∙ sym (number-snoc 0 g.digits d);
    many = omega (arith, g.many, length-append g.digits (d ∷ []));
    same = let k : most - count ≡ suc (most - (count + 1)) = omega arith in
        g.same ∙ ap (λ (j : ℕ). prepend g.digits (digits_up_to j u)) k
        ∙ ap (prepend g.digits) (step-more (most - (count + 1)) u d (sym e) h)
        ∙ prepend-one g.digits d (digits_up_to (most - (count + 1)) (rest u))
        ∙ ap (λ (w : List ℕ). prepend (g.digits ++ (d ∷ [])) (digits_up_to (most - (count + 1)) w)) f;
  }

  -- no digit follows, or there are as many as may be
  pub run-stop : 10 ≤ digit (peek u) → Stopped s most u value count
  run-stop h = record { run = g; stop = step-stop (most - count) u (digit (peek u)) refl h }

  pub run-full : most ≤ count → Stopped s most u value count
  run-full h = record { run = g; stop = step-none (most - count) u (omega arith) }

none-left : (ds : List ℕ) → length ds ≡ 0 → ds ≡ []
none-left [] e = refl
none-left (d ∷ ds) e = absurd (omega arith)

module _ {s : List ℕ} {most : ℕ} {u : List ℕ} {value count : ℕ} (g : Stopped s most u value count) where
  all-read : digits_up_to most s ≡ good g.run.digits u
  all-read = g.run.same ∙ ap (prepend g.run.digits) g.stop ∙ ap (λ (l : List ℕ). good l u) (append-nil g.run.digits)

  -- where no digit is read, all is left
  pub run-none : count ≡ 0 → digits_up_to most s ≡ good [] s
  run-none h =
      all-read ∙ ap (λ (l : List ℕ). good l u) (none-left g.run.digits (omega (arith, g.run.many))) ∙ ap (λ (w : List ℕ). good [] w) (g.run.start h)

  pub run-some : (r : Run) → r.rest.now ≡ u → r.value ≡ value → r.count ≡ count → (count ≡ 0 → ⊥) → IsRun s most r
  run-some r e f k h = record {
    some = omega (arith, h);
    few = omega (arith, g.run.few);
    onward = omega (arith, g.run.onward, ap length e);
    value = rw (f, k) g.run.small;
    read = (g.run.digits, all-read ∙ ap (λ (w : List ℕ). good g.run.digits w) (sym e), f ∙ g.run.number, k ∙ g.run.many);
  }

-- ════ at least one digit ════

by-test : (k : ℕ) (s : List ℕ) → Dec (digit (peek s) < 10)
    → (digit_and k s ≡ digits_up_to (suc k) s) ⊎ ((digit_and k s ≡ stuck s) × (digits_up_to (suc k) s ≡ good [] s))
unfolding digit_and digits_up_to
by-test k s (yes h) = inl (simp (lt-ltb (digit (peek s)) 10 h))
by-test k s (no h) = inr (simp (le-ltb (digit (peek s)) 10 (omega arith)), simp (le-ltb (digit (peek s)) 10 (omega arith)))

good-list : (x y : List ℕ) (s t : List ℕ) → good x s ≡ good y t → x ≡ y
good-list x y s t e = cc

some-digits : (k : ℕ) (s ds t : List ℕ) → digits_up_to (suc k) s ≡ good ds t → 1 ≤ length ds → digit_and k s ≡ good ds t
some-digits k s ds t e h = go (by-test k s (dec_lt (digit (peek s)) 10))
  where
    go : (digit_and k s ≡ digits_up_to (suc k) s) ⊎ ((digit_and k s ≡ stuck s) × (digits_up_to (suc k) s ≡ good [] s)) → digit_and k s ≡ good ds t
    go (inl p) = p ∙ e
    go (inr p) = absurd (omega (arith, ap length (good-list [] ds s t (sym p.1 ∙ e))))

-- where a digit stands, one is read
digit-read : (k : ℕ) (s ds t : List ℕ) → digits_up_to (suc k) s ≡ good ds t → digit (peek s) < 10 → 1 ≤ length ds
digit-read k s ds t e h = go (digits_up_to k (rest s)) (sym (step-more k s (digit (peek s)) refl h) ∙ e)
  where
    go : (r : Found (List ℕ)) → and_then r (λ es u. good (digit (peek s) ∷ es) u) ≡ good ds t → 1 ≤ length ds
    go (good es u) f = omega (arith, ap length (good-list (digit (peek s) ∷ es) ds u t f))
    go (stuck u) f = good-stuck ds t u (sym f)

no-digits : (k : ℕ) (s ds t : List ℕ) → digits_up_to (suc k) s ≡ good ds t → length ds ≡ 0 → digit_and k s ≡ stuck s
unfolding digit_and
no-digits k s ds t e h = go (dec_lt (digit (peek s)) 10)
  where
    go : Dec (digit (peek s) < 10) → digit_and k s ≡ stuck s
    go (yes p) = absurd (omega (arith, digit-read k s ds t e p))
    go (no p) = simp (le-ltb (digit (peek s)) 10 (omega arith))

-- ════ constants ════

module _ (s ds t : List ℕ) (e : digits_up_to 6 s ≡ good ds t) where
  constant-none : length ds ≡ 0 → constant_at s ≡ stuck s
  unfolding constant_at
  constant-none h = ap (λ (r : Found (List ℕ)). and_then r decimals_after) (no-digits 5 s ds t e h)

  module _ (h : 1 ≤ length ds) where
    whole : constant_at s ≡ decimals_after ds t
    unfolding constant_at
    whole = ap (λ (r : Found (List ℕ)). and_then r decimals_after) (some-digits 5 s ds t e h)

    constant-whole : eqb (peek t) 46 ≡ false → constant_at s ≡ good (constant ds []) t
    unfolding decimals_after
    constant-whole p = whole ∙ simp p

    module _ (p : eqb (peek t) 46 ≡ true) (es u : List ℕ) (f : digits_up_to 4 (rest t) ≡ good es u) where
      constant-stuck : length es ≡ 0 → constant_at s ≡ stuck (rest t)
      unfolding decimals_after
      constant-stuck g = whole ∙ simp (p, no-digits 3 (rest t) es u f g)

      constant-good : 1 ≤ length es → constant_at s ≡ good (constant ds es) u
      unfolding decimals_after
      constant-good g = whole ∙ simp (p, some-digits 3 (rest t) es u f g)

units-whole : (ds : List ℕ) (v : ℕ) → v ≡ number_from 0 ds → v * 10000 ≡ units_of ds []
unfolding units_of number_from
units-whole ds v e = rw e (omega arith)

units-part : (ds es : List ℕ) (v x : ℕ) → v ≡ number_from 0 ds → x ≡ number_from 0 es
    → v * 10000 + x * 10 ^ (4 - length es) ≡ units_of ds es
unfolding units_of
units-part ds es v x e f = rw (f, e)

scaled_small : (x k : ℕ) → x < 10 ^ k → 1 ≤ k → k ≤ 4 → x * 10 ^ (4 - k) < 10000
scaled_small x zero h l g = absurd (omega arith)
scaled_small x (suc zero) h l g = omega arith
scaled_small x (suc (suc zero)) h l g = omega arith
scaled_small x (suc (suc (suc zero))) h l g = omega arith
scaled_small x (suc (suc (suc (suc zero)))) h l g = omega arith
scaled_small x (suc (suc (suc (suc (suc k))))) h l g = absurd (omega arith)

pub part_small : {s : List ℕ} {p : Run} → IsRun s 4 p → p.value * 10 ^ (4 - p.count) < 10000
part_small {p = p} q = scaled_small p.value p.count q.value q.some q.few

-- no digit stands first
pub whole-none : (s : List ℕ) (t : Bor (List ℕ)) → AreDigits s 6 (Err t) → IsConstant s (Err t)
whole-none s t g =
    (omega (arith, ap length g.0), constant-none s [] s g.1 (omega arith) ∙ ap (λ (u : List ℕ). stuck u) (sym g.0))

-- the digits w were read
module _ {s : List ℕ} {w : Run} (r : IsRun s 6 w) where
  pub whole-small : w.value < 1_000_000
  whole-small = below-million w.value w.count 6 r.value r.few (omega arith)

  -- no point follows
  pub whole-alone : eqb (peek w.rest.now) 46 ≡ false → IsConstant s (Ok (w.value * 10000, w.rest))
  whole-alone f = (
    omega (arith, r.onward, r.some),
    omega (arith, whole-small),
    (
      r.read.0,
      [],
      constant-whole s r.read.0 w.rest.now r.read.1 (omega (arith, r.read.3, r.some)) f,
      units-whole r.read.0 w.value r.read.2,
    ),
  )

  module _ {u : List ℕ} (f : eqb (peek w.rest.now) 46 ≡ true) (e : rest w.rest.now ≡ u) where
    point-shorter : length u + 1 ≡ length w.rest.now
    point-shorter = omega (arith, shorter w.rest.now (omega (arith, eqb-true (peek w.rest.now) 46 f)), ap length e)

    -- no digit stands behind the point
    pub part_none : (t : Bor (List ℕ)) → AreDigits u 4 (Err t) → IsConstant s (Err t)
    part_none t q = (
      omega (arith, r.onward, point-shorter, ap length q.0),
      constant-stuck s r.read.0 w.rest.now r.read.1 (omega (arith, r.read.3, r.some)) f [] u (ap (digits_up_to 4) e ∙ q.1) refl
          ∙ ap (λ (v : List ℕ). stuck v) (e ∙ sym q.0),
    )

    -- the digits p were read there
    pub part-read : {p : Run} → IsRun u 4 p → IsConstant s (Ok (w.value * 10000 + p.value * 10 ^ (4 - p.count), p.rest))
    part-read {p} q = (
      omega (arith, r.onward, q.onward, point-shorter, r.some),
      omega (arith, whole-small, part_small q),
      (
        r.read.0,
        q.read.0,
        constant-good s r.read.0 w.rest.now r.read.1 (omega (arith, r.read.3, r.some)) f q.read.0
            p.rest.now (ap (digits_up_to 4) e ∙ q.read.1) (omega (arith, q.read.3, q.some)),
        ap (λ (k : ℕ). w.value * 10000 + p.value * 10 ^ (4 - k)) q.read.3 ∙ units-part r.read.0 q.read.0 w.value p.value r.read.2 q.read.2,
      ),
    )

-- the scale of a part, by its count of digits
pub scale-is : (k r j : ℕ) → k ≡ j → r ≡ 10 ^ (4 - j) → r ≡ 10 ^ (4 - k)
scale-is k r j e h = h ∙ ap (λ (i : ℕ). 10 ^ (4 - i)) (sym e)

-- ════ leaves ════

converts-factor : (n i : ℕ) (ls : List TextLine) → convert n (factor i) ls ≡ operand (line (reference n i)) ls
unfolding convert
converts-factor n i ls = refl

converts-constant : (n : ℕ) (w p : List ℕ) (v : ℕ) → v ≡ units_of w p → (ls : List TextLine) → convert n (constant w p) ls ≡ operand (fixed v) ls
unfolding convert
converts-constant n w p v e ls = ap (λ (k : ℕ). operand (fixed k) ls) (sym e)

-- the letter of a factor stands first, and u is behind it
module _ (s : List ℕ) (n : ℕ) (b : Bor (List ℕ)) (f : (eqb (peek s) 102 ≡ true) × (rest s ≡ b.now)) where
  letter-shorter : length b.now + 1 ≡ length s
  letter-shorter = omega (arith, shorter s (omega (arith, eqb-true (peek s) 102 f.0)), ap length f.1)

  behind : leaf_at s ≡ factor_at b.now
  unfolding leaf_at
  behind = simp (f.0, f.1)

  -- and a digit
  pub factor-read : {i : ℕ} (t : Bor (List ℕ)) {r : ℕ} → IsDigit b.now (Some (i, t)) → 1 ≤ i → i ≤ 8 → r ≡ reference n i
      → IsLeaf s n (Ok (code.Line r, t))
  unfolding factor_at
  factor-read {i} t {r} d l h e =
      let k = digit-byte (peek b.now) i d.0 d.1 in
      record {
        onward = omega (arith, letter-shorter, digit-shorter b.now i d.0 d.1, ap length d.2);
        short = omega (arith, reference-small n i, e);
        tree = factor i;
        found = behind ∙ the-factor (omega (arith, k)) (omega (arith, k));
        converts = λ ls. converts-factor n i ls ∙ ap (λ (k : ℕ). operand (line k) ls) (sym e);
      }
    where
      the-factor : 49 ≤ peek b.now → peek b.now ≤ 56 → factor_at b.now ≡ good (factor i) t.now
      the-factor l h = simp (le-leb 49 _ l, le-leb _ 56 h, d.0, d.2)

  factor-not : peek b.now < 49 ⊎ 56 < peek b.now → IsLeaf s n (Err b)
  unfolding factor_at
  factor-not o = (omega (arith, letter-shorter), behind ∙ go o)
    where
      high : Dec (peek b.now < 49) → 56 < peek b.now → factor_at b.now ≡ stuck b.now
      high (yes l) h = simp (lt-leb 49 _ l)
      high (no l) h = let k : 49 ≤ peek b.now = omega arith in simp (le-leb 49 _ k, lt-leb _ 56 h)

      go : peek b.now < 49 ⊎ 56 < peek b.now → factor_at b.now ≡ stuck b.now
      go (inl h) = simp (lt-leb 49 _ h)
      go (inr h) = high (dec_lt (peek b.now) 49) h

  -- or another digit, or none
  pub factor-other : {i : ℕ} (t : Bor (List ℕ)) → IsDigit b.now (Some (i, t)) → (1 ≤ i → i ≤ 8 → ⊥) → IsLeaf s n (Err b)
  factor-other {i} t d h = go (dec_lt i 1) (dec_lt 8 i)
    where
      go : Dec (i < 1) → Dec (8 < i) → IsLeaf s n (Err b)
      go (yes l) q = factor-not (inl (omega (arith, digit-byte (peek b.now) i d.0 d.1)))
      go (no l) (yes g) = factor-not (inr (omega (arith, digit-byte (peek b.now) i d.0 d.1)))
      go (no l) (no g) = absurd (h (omega arith) (omega arith))

  pub factor-none : 10 ≤ digit (peek b.now) → IsLeaf s n (Err b)
  factor-none h = go (dec_lt (peek b.now) 49) (dec_lt 56 (peek b.now))
    where
      go : Dec (peek b.now < 49) → Dec (56 < peek b.now) → IsLeaf s n (Err b)
      go (yes l) q = factor-not (inl l)
      go (no l) (yes g) = factor-not (inr g)
      go (no l) (no g) = absurd (omega (arith, digit-of (peek b.now) (omega arith) (omega arith)))

-- another byte stands there
module _ (s : List ℕ) (n : ℕ) (f : eqb (peek s) 102 ≡ false) where
  no-letter : leaf_at s ≡ constant_at s
  unfolding leaf_at
  no-letter = simp f

  pub constant-read : {v : ℕ} (t : Bor (List ℕ)) → IsConstant s (Ok (v, t)) → IsLeaf s n (Ok (code.Fixed v, t))
  constant-read {v} t h = record {
    onward = h.0;
    short = h.1;
    tree = constant h.2.0 h.2.1;
    found = no-letter ∙ h.2.2;
    converts = converts-constant n h.2.0 h.2.1 v h.2.3;
  }

  pub no-constant : (t : Bor (List ℕ)) → IsConstant s (Err t) → IsLeaf s n (Err t)
  no-constant t h = (h.0, no-letter ∙ h.1)
