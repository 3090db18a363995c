-- Bounds in proportion to a weight: lo·s ≤ y ≤ hi·s for a weight s ≥ 0. At s = 1 they say that y lies between lo and hi; where y is a
-- quadratic form at a vector and s the sum of its squares, that lo and hi bound the form's eigenvalues. So one law for each operation
-- serves values, gradients and spectra. Assumes nothing.
use mathlib.Core.Path.{◌≡◌, sym, ap}
use Rattle.algebra.proofs.Ring as Ring
use Rattle.algebra.proofs.Ordered as Ord
use Rattle.algebra.proofs.Ordered.{OrderedRing}

module _ {R : Type 0} (𝓞 : OrderedRing R) where
  infix 50 ◌≤◌
  infixl 65 ◌+◌
  infixl 70 ◌*◌
  open 𝓞 use {comm_ring as 𝓡, le as ◌≤◌, le_trans}
  open 𝓞.comm_ring use {add as ◌+◌, mul as ◌*◌, neg, 𝟘, 𝟙}

  pub record Scaled (s lo hi y : R) : Type 0 where
    pub low : lo * s ≤ y
    pub high : y ≤ hi * s

  -- ---- weight 1
  pub at_one : {lo hi y : R} → lo ≤ y → y ≤ hi → Scaled 𝟙 lo hi y
  at_one {lo} {hi} h k = record { low = Ord.eq-le 𝓞 (𝓡.mul-one lo) h; high = Ord.le-eq 𝓞 k (sym (𝓡.mul-one hi)) }

  pub of-one-low : {lo hi y : R} → Scaled 𝟙 lo hi y → lo ≤ y
  of-one-low {lo} w = Ord.eq-le 𝓞 (sym (𝓡.mul-one lo)) w.low

  pub of-one-high : {lo hi y : R} → Scaled 𝟙 lo hi y → y ≤ hi
  of-one-high {hi = hi} w = Ord.le-eq 𝓞 w.high (𝓡.mul-one hi)

  -- ---- any weight: a number between the bounds, in proportion
  pub scaled-by : {s lo hi x : R} → 𝟘 ≤ s → lo ≤ x → x ≤ hi → Scaled s lo hi (x * s)
  scaled-by p l h = record { low = Ord.mul-le-right 𝓞 p l; high = Ord.mul-le-right 𝓞 p h }

  -- ---- equal and wider bounds
  pub scaled-eq : {s lo hi y z : R} → Scaled s lo hi y → y ≡ z → Scaled s lo hi z
  scaled-eq w e = record { low = Ord.le-eq 𝓞 w.low e; high = Ord.eq-le 𝓞 (sym e) w.high }

  pub scaled_at : {s t lo hi y : R} → Scaled s lo hi y → s ≡ t → Scaled t lo hi y
  scaled_at {lo = lo} {hi = hi} w e =
      record { low = Ord.eq-le 𝓞 (ap (lo *◌) (sym e)) w.low; high = Ord.le-eq 𝓞 w.high (ap (hi *◌) e) }

  pub scaled-zero : (s : R) → Scaled s 𝟘 𝟘 𝟘
  scaled-zero s = record { low = Ord.le_of_eq 𝓞 (Ring.zero-mul 𝓡 s); high = Ord.le_of_eq 𝓞 (sym (Ring.zero-mul 𝓡 s)) }

  pub scaled-wider : {s lo hi m M y : R} → 𝟘 ≤ s → m ≤ lo → hi ≤ M → Scaled s lo hi y → Scaled s m M y
  scaled-wider p l h w = record { low = le_trans (Ord.mul-le-right 𝓞 p l) w.low; high = le_trans w.high (Ord.mul-le-right 𝓞 p h) }

  -- ---- the operations
  pub scaled-sum : {s a b c d x y : R} → Scaled s a b x → Scaled s c d y → Scaled s (a + c) (b + d) (x + y)
  scaled-sum {s} {a} {b} {c} {d} v w =
      record {
        low = Ord.eq-le 𝓞 (Ring.add-mul 𝓡 a c s) (Ord.add-mono 𝓞 v.low w.low);
        high = Ord.le-eq 𝓞 (Ord.add-mono 𝓞 v.high w.high) (sym (Ring.add-mul 𝓡 b d s));
      }

  pub scaled-neg : {s a b x : R} → Scaled s a b x → Scaled s (neg b) (neg a) (neg x)
  scaled-neg {s} {a} {b} w =
      record {
        low = Ord.eq-le 𝓞 (Ring.neg-mul 𝓡 b s) (Ord.neg-anti 𝓞 w.high);
        high = Ord.le-eq 𝓞 (Ord.neg-anti 𝓞 w.low) (sym (Ring.neg-mul 𝓡 a s));
      }

  pub scaled-times : {s a b x : R} (k : R) → 𝟘 ≤ k → Scaled s a b x → Scaled s (k * a) (k * b) (k * x)
  scaled-times {s} {a} {b} k p w =
      record {
        low = Ord.eq-le 𝓞 (𝓡.mul_assoc k a s) (Ord.mul-le-left 𝓞 p w.low);
        high = Ord.le-eq 𝓞 (Ord.mul-le-left 𝓞 p w.high) (sym (𝓡.mul_assoc k b s));
      }

  -- x between a and b, times y: any bounds outside the four products of the ends
  pub scaled-product : {s a b c d m M x y : R} → 𝟘 ≤ s → a ≤ x → x ≤ b → Scaled s c d y
      → m ≤ a * c → m ≤ a * d → m ≤ b * c → m ≤ b * d → a * c ≤ M → a * d ≤ M → b * c ≤ M → b * d ≤ M → Scaled s m M (x * y)
  scaled-product {s} {m = m} {M = M} p ax xb w lac lad lbc lbd uac uad ubc ubd =
      record {
        low = Ord.product-lower 𝓞 ax xb w.low w.high (below lac) (below lad) (below lbc) (below lbd);
        high = Ord.product-upper 𝓞 ax xb w.low w.high (above uac) (above uad) (above ubc) (above ubd);
      }
    where
      below : {e f : R} → m ≤ e * f → m * s ≤ e * (f * s)
      below {e} {f} h = Ord.le-eq 𝓞 (Ord.mul-le-right 𝓞 p h) (𝓡.mul_assoc e f s)

      above : {e f : R} → e * f ≤ M → e * (f * s) ≤ M * s
      above {e} {f} h = Ord.eq-le 𝓞 (sym (𝓡.mul_assoc e f s)) (Ord.mul-le-right 𝓞 p h)

  -- ---- other weights
  -- a larger weight: bounds on either side of 0
  pub scaled-lift : {s t lo hi m M y : R} → 𝟘 ≤ s → s ≤ t → m ≤ lo → m ≤ 𝟘 → hi ≤ M → 𝟘 ≤ M → Scaled s lo hi y → Scaled t m M y
  scaled-lift p st l l0 h h0 w =
      record {
        low = le_trans (Ord.mul-le-left-neg 𝓞 l0 st) (le_trans (Ord.mul-le-right 𝓞 p l) w.low);
        high = le_trans w.high (le_trans (Ord.mul-le-right 𝓞 p h) (Ord.mul-le-left 𝓞 h0 st));
      }

  -- the sum of two weights: bounds outside both
  pub scaled-join : {s t a b c d m M x y : R} → 𝟘 ≤ s → 𝟘 ≤ t → m ≤ a → m ≤ c → b ≤ M → d ≤ M
      → Scaled s a b x → Scaled t c d y → Scaled (s + t) m M (x + y)
  scaled-join {s} {t} {m = m} {M = M} p q ma mc b_m d_m v w =
      let i = scaled-wider p ma b_m v in
      let j = scaled-wider q mc d_m w in
      record {
        low = Ord.eq-le 𝓞 (𝓡.mul-add m s t) (Ord.add-mono 𝓞 i.low j.low);
        high = Ord.le-eq 𝓞 (Ord.add-mono 𝓞 i.high j.high) (sym (𝓡.mul-add M s t));
      }
