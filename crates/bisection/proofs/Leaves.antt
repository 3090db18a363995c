-- The rating in parts is that of the leaves together: `parts-leaves`. Assumes nothing.
use mathlib.Core.Path.{◌≡◌, refl, sym, ap, ap₂, ◌∙◌}
use mathlib.Core.Bool.{Bool, true, false, cond}
use mathlib.Core.List.{List, [], ◌∷◌, ◌++◌, map, map-append}
use Prim.Native.Nat.{ℕ, zero, suc, ◌<◌}
use native.Mathlib.Omega.{arith}
use lib.ListN.{length, length-append, length-map}
use Rattle.codelist.specs.declared.Codelist.{Codelist}
use Rattle.range.specs.declared.Range.{Range}
use Rattle.range.specs.Arithmetic.{ends_hull}
use Rattle.range.specs.Sums.{at}
use Rattle.rules.specs.InFull.{Outcome}
use Rattle.rules.specs.InFull.{Rated, Refused}
use Rattle.rules.specs.declared.Limits.{Limits}
use Rattle.rules.specs.InFull.{Rating}
use Rattle.rules.specs.Rate.{rated, rate_ranges}
use Rattle.bisection.specs.Cut.{hull_limits, hulled_by, hulled, narrow, lower_part, upper_part, parts, leaves, together}
use Rattle.bisection.specs.Promises.{plain}
use Rattle.bisection.proofs.Covers.{lower-part, upper-part}
use Rattle.bisection.proofs.Hulls.{hull-assoc}
use Rattle.bisection.proofs.Plain.{Ready, plain-is, ready-part}

-- ---- hulls of three
module _ (l m n : Limits) where
  slopes-assoc : (a : ℕ) → ends_hull (ends_hull (at l.gradient a) (at m.gradient a)) (at n.gradient a)
      ≡ ends_hull (at l.gradient a) (ends_hull (at m.gradient a) (at n.gradient a))
  slopes-assoc a = hull-assoc (at l.gradient a) (at m.gradient a) (at n.gradient a)

  limits-assoc : hull_limits (hull_limits l m) n ≡ hull_limits l (hull_limits m n)
  unfolding hull_limits
  limits-assoc = cc (
    hull-assoc l.value m.value n.value,
    hull-assoc l.spectrum m.spectrum n.spectrum,
    hull-assoc l.full m.full n.full,
    slopes-assoc 0,
    slopes-assoc 1,
    slopes-assoc 2,
    slopes-assoc 3,
    slopes-assoc 4,
    slopes-assoc 5,
    slopes-assoc 6,
    slopes-assoc 7,
  )

hulled-assoc : (x y z : Rating) → hulled (hulled x y) z ≡ hulled x (hulled y z)
hulled-assoc x y z = go x.outcome y.outcome z.outcome
  where
    go : (o u v : Outcome) → hulled (hulled_by o x.limits u y.limits) (record { outcome = v; limits = z.limits })
        ≡ hulled (record { outcome = o; limits = x.limits }) (hulled_by u y.limits v z.limits)
    go (Refused r) u v = refl
    go Rated (Refused r) v = refl
    go Rated Rated (Refused r) = refl
    go Rated Rated Rated = ap rated (limits-assoc x.limits y.limits z.limits)

-- ---- ratings one after another
together-more : (x : Rating) (xs : List Rating) → 0 < length xs → together (x ∷ xs) ≡ hulled x (together xs)
unfolding together
together-more x [] h = absurd (omega arith)
together-more x (y ∷ ys) h = refl

together-append : (xs ys : List Rating) → 0 < length xs → 0 < length ys → together (xs ++ ys) ≡ hulled (together xs) (together ys)
unfolding together
together-append [] ys h k = absurd (omega arith)
together-append (x ∷ []) ys h k = together-more x ys k
together-append (x ∷ w ∷ xs) ys h k =
    ap (hulled x) (together-append (w ∷ xs) ys (omega arith) k) ∙ sym (hulled-assoc x (together (w ∷ xs)) (together ys))

-- ---- the leaves
leaves-some : (d : ℕ) (rs : List Range) → 0 < length (leaves d rs)
unfolding leaves
leaves-some zero rs = omega arith
leaves-some (suc d) rs = go (narrow rs) (leaves-some d (lower_part rs))
  where
    go : (b : Bool) → 0 < length (leaves d (lower_part rs))
        → 0 < length (cond b (rs ∷ []) (leaves d (lower_part rs) ++ leaves d (upper_part rs)))
    go true h = omega arith
    go false h = omega (arith, length-append (leaves d (lower_part rs)) (leaves d (upper_part rs)))

pub parts-leaves : (d : ℕ) {c : Codelist} {rs : List Range} → Ready c rs → parts d c rs ≡ together (map (plain c) (leaves d rs))
unfolding parts leaves together
parts-leaves zero y = sym (plain-is y)
parts-leaves (suc d) {c} {rs} y =
    go (narrow rs) refl
    (λ w. parts-leaves d (ready-part y (lower-part rs w y.valid)))
    (λ w. parts-leaves d (ready-part y (upper-part rs w y.valid)))
  where
    some : (ts : List Range) → 0 < length (map (plain c) (leaves d ts))
    some ts = omega (arith, length-map (leaves d ts) (plain c), leaves-some d ts)

    go : (b : Bool) → narrow rs ≡ b
        → (narrow rs ≡ false → parts d c (lower_part rs) ≡ together (map (plain c) (leaves d (lower_part rs))))
        → (narrow rs ≡ false → parts d c (upper_part rs) ≡ together (map (plain c) (leaves d (upper_part rs))))
        → cond b (rate_ranges c rs 0) (hulled (parts d c (lower_part rs)) (parts d c (upper_part rs)))
        ≡ together (map (plain c) (cond b (rs ∷ []) (leaves d (lower_part rs) ++ leaves d (upper_part rs))))
    go true w L U = sym (plain-is y)
    go false w L U =
        let ls = leaves d (lower_part rs) in
        let us = leaves d (upper_part rs) in
        let joined = together-append (map (plain c) ls) (map (plain c) us) (some (lower_part rs)) (some (upper_part rs)) in
        ap₂ hulled (L w) (U w) ∙ sym (ap together (map-append (plain c) ls us) ∙ joined)
