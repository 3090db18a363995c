-- The root of request 4: what `star_root` is, and how far it moves where its arguments do. Assumes nothing.
use mathlib.Core.Path.{◌≡◌, refl, ap}
use Prim.Native.Nat.{zero-le}
use lib.IntN.{ℤ, pos, negsuc, neg_ℤ, nat_abs, ◌+ℤ◌, ◌-ℤ◌, ◌*ℤ◌}
use lib.Signed.{◌≤ℤ◌}
use Rattle.algebra.proofs.Ordered as Ord
use Rattle.algebra.proofs.Solver.{lit, :0, ◌:+◌, ◌:*◌, ◌:-◌, :-◌, ◌:=◌, ring}
use Rattle.algebra.proofs.Linear.{◌:≤◌, ◌⇒◌, ⊢◌, linarith}
use Rattle.exact.specs.Sqrt.{ceil_sqrt}
use Rattle.algebra.proofs.Int.{ℤ-ring, ℤ-ordered, pos-≤, nat_abs-mono, ≤ℤ-trans, ≤ℤ-of-≡}
use Rattle.exact.proofs.Sqrt.{ceil-root}
use Rattle.range.specs.Star.{star_root}

-- ---- what it is
abbrev radicand : ℤ → ℤ → ℤ → ℤ
radicand a b m = (a -ℤ b) *ℤ (a -ℤ b) +ℤ pos 4 *ℤ (m *ℤ m)

pub abs-above : (z : ℤ) → z ≤ℤ pos (nat_abs z)
abs-above (pos n) = ≤ℤ-of-≡ refl
abs-above (negsuc n) = record { le = tt }

module _ (a b m : ℤ) where
  pub radicand-nonneg : pos 0 ≤ℤ radicand a b m
  radicand-nonneg =
      Ord.add-nonneg ℤ-ordered (Ord.square-nonneg ℤ-ordered (a -ℤ b))
      (ℤ-ordered.mul-nonneg (pos-≤ zero-le) (Ord.square-nonneg ℤ-ordered m))

  pub root-nonneg : pos 0 ≤ℤ star_root a b m
  unfolding star_root
  root-nonneg = pos-≤ zero-le

  pub root-large : radicand a b m ≤ℤ (star_root a b m *ℤ star_root a b m)
  unfolding star_root
  root-large = ≤ℤ-trans (abs-above (radicand a b m)) (pos-≤ (ceil-root (nat_abs (radicand a b m))).high)

  pub root-least : (r : ℤ) → pos 0 ≤ℤ r → radicand a b m ≤ℤ (r *ℤ r) → star_root a b m ≤ℤ r
  unfolding star_root
  root-least (pos r) p h = pos-≤ ((ceil-root (nat_abs (radicand a b m))).least r (nat_abs-mono radicand-nonneg h))
  root-least (negsuc r) p h = absurd p.le

  -- at least the difference, of either sign
  gap : ((a -ℤ b) *ℤ (a -ℤ b)) ≤ℤ (star_root a b m *ℤ star_root a b m)
  gap =
      linarith ℤ-ordered 3 (λ d m r. d :+ lit 4 :* m :≤ r ⇒ :0 :≤ m ⇒ ⊢ d :≤ r) tt
      ((a -ℤ b) *ℤ (a -ℤ b)) (m *ℤ m) (star_root a b m *ℤ star_root a b m) root-large (Ord.square-nonneg ℤ-ordered m)

  pub root-above : (a -ℤ b) ≤ℤ star_root a b m
  root-above = Ord.le-of-squares ℤ-ordered root-nonneg gap

  pub root_below : neg_ℤ (star_root a b m) ≤ℤ (a -ℤ b)
  root_below = Ord.neg-le-of-squares ℤ-ordered root-nonneg gap

-- ---- how far it moves: where the difference x moves by at most k, and M² grows, by at most k. With y for the other difference and r for its
-- root, x² ≤ y² + 2·r·k + k², from (r − y)(k + (x − y)) ≥ 0, (r + y)(k − (x − y)) ≥ 0 and (k − (x − y))(k + (x − y)) ≥ 0.
moved : (x y r k m n : ℤ) → y ≤ℤ r → neg_ℤ r ≤ℤ y → (x -ℤ y) ≤ℤ k → neg_ℤ k ≤ℤ (x -ℤ y) → (m *ℤ m) ≤ℤ (n *ℤ n)
    → (y *ℤ y +ℤ pos 4 *ℤ (n *ℤ n)) ≤ℤ (r *ℤ r)
    → (x *ℤ x +ℤ pos 4 *ℤ (m *ℤ m)) ≤ℤ ((r +ℤ k) *ℤ (r +ℤ k))
moved x y r k m n above below up down h large =
    let left = Ord.sub-nonneg ℤ-ordered above in
    let right = Ord.sub-nonneg ℤ-ordered below in
    let less = Ord.sub-nonneg ℤ-ordered up in
    let more = Ord.sub-nonneg ℤ-ordered down in
    linarith ℤ-ordered 6
    (λ x y r k m n.
    y :* y :+ lit 4 :* (n :* n) :≤ r :* r ⇒ m :* m :≤ n :* n
    ⇒ :0 :≤ (r :- y) :* (x :- y :- :- k)
    ⇒ :0 :≤ (y :- :- r) :* (k :- (x :- y))
    ⇒ :0 :≤ (k :- (x :- y)) :* (x :- y :- :- k)
    ⇒ ⊢ x :* x :+ lit 4 :* (m :* m) :≤ (r :+ k) :* (r :+ k))
    tt x y r k m n large h
    (ℤ-ordered.mul-nonneg left more) (ℤ-ordered.mul-nonneg right less) (ℤ-ordered.mul-nonneg less more)

pub root-near : (a b m d e n k : ℤ) → (a -ℤ b -ℤ (d -ℤ e)) ≤ℤ k → neg_ℤ k ≤ℤ (a -ℤ b -ℤ (d -ℤ e)) → (m *ℤ m) ≤ℤ (n *ℤ n)
    → star_root a b m ≤ℤ (star_root d e n +ℤ k)
root-near a b m d e n k up down h =
    let r = star_root d e n in
    let nonneg : pos 0 ≤ℤ k = linarith ℤ-ordered 2 (λ t k. t :≤ k ⇒ :- k :≤ t ⇒ ⊢ :0 :≤ k) tt (a -ℤ b -ℤ (d -ℤ e)) k up down in
    root-least a b m (r +ℤ k) (Ord.add-nonneg ℤ-ordered (root-nonneg d e n) nonneg)
    (moved (a -ℤ b) (d -ℤ e) r k m n (root-above d e n) (root_below d e n) up down h (root-large d e n))

-- at most the difference and 2·M
pub root-spread : (a b m k : ℤ) → pos 0 ≤ℤ m → (a -ℤ b) ≤ℤ k → neg_ℤ k ≤ℤ (a -ℤ b) → star_root a b m ≤ℤ (k +ℤ pos 2 *ℤ m)
root-spread a b m k p up down =
    let nonneg : pos 0 ≤ℤ k = linarith ℤ-ordered 2 (λ t k. t :≤ k ⇒ :- k :≤ t ⇒ ⊢ :0 :≤ k) tt (a -ℤ b) k up down in
    root-least a b m (k +ℤ pos 2 *ℤ m)
    (linarith ℤ-ordered 2 (λ k m. :0 :≤ k ⇒ :0 :≤ m ⇒ ⊢ :0 :≤ k :+ lit 2 :* m) tt k m nonneg p)
    (linarith ℤ-ordered 3
    (λ d k m. :0 :≤ (k :- d) :* (d :- :- k) ⇒ :0 :≤ k :* m ⇒ ⊢ d :* d :+ lit 4 :* (m :* m) :≤ (k :+ lit 2 :* m) :* (k :+ lit 2 :* m)) tt
    (a -ℤ b) k m
    (ℤ-ordered.mul-nonneg (Ord.sub-nonneg ℤ-ordered up) (Ord.sub-nonneg ℤ-ordered down)) (ℤ-ordered.mul-nonneg nonneg p))

-- ---- the order of the first two does not matter
pub root-comm : (a b m : ℤ) → star_root a b m ≡ star_root b a m
unfolding star_root
root-comm a b m =
    ap (λ z. pos (ceil_sqrt (nat_abs z)))
    (ring ℤ-ring 3 (λ a b m. (a :- b) :* (a :- b) :+ lit 4 :* (m :* m) := (b :- a) :* (b :- a) :+ lit 4 :* (m :* m)) tt a b m)
