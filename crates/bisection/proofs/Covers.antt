-- The parts of a class cover it: `covers`. Assumes nothing.
use mathlib.Core.Path.{◌≡◌, refl, sym, subst, ◌∙◌}
use mathlib.Core.Bool.{Bool, true, false, cond}
use mathlib.Core.List.Memᴰ
use mathlib.Core.List.{List, [], ◌∷◌, ◌++◌, Memᴰ}
use mathlib.Core.Logic.{◌⊎◌, inl, inr}
use Prim.Native.Nat.{ℕ, zero, suc, ◌≤◌, ◌<◌, ◌^◌}
use native.Mathlib.Omega.{arith}
use lib.Dec.{T, ltb}
use lib.ListN.{length, set, length-append, length-set}
use lib.Pow.{pow_pos}
use lib.Signed.{≤ℤ_refl}
use borrow.Author.Tests.{ltb-true, ltb-false}
use Rattle.algebra.proofs.Int.{≤ℤ-trans}
use Rattle.exact.specs.Units.{In}
use Rattle.range.specs.declared.Range.{Range}
use Rattle.range.specs.Limit.{is_valid}
use Rattle.range.specs.Laws as Range
use Rattle.range.specs.Sums.{at}
use Rattle.rules.specs.Exact.{Point, coordinate}
use Rattle.bisection.specs.Cut.{widest, widest_range, narrow, cut_point, lower_part, upper_part, leaves}
use Rattle.bisection.specs.Promises.{Holds, PartOf, Covers}
use Rattle.bisection.proofs.Widths.{widest-in}
use Rattle.bisection.proofs.Halving.{lower-inside, upper-inside, in-half, at_set}

-- each range is valid; beyond the last it is zero
abbrev pub Valid : List Range → Type 0
Valid rs = (a : ℕ) → T (is_valid (at rs a))

-- ---- parts of parts
part-self : (rs : List Range) → Valid rs → PartOf rs rs
part-self rs v = record { count = refl; each = λ a. record { valid = v a; low = ≤ℤ_refl _; high = ≤ℤ_refl _ } }

part-trans : {rs ls ms : List Range} → PartOf rs ls → PartOf ls ms → PartOf rs ms
part-trans p q = record {
  count = q.count ∙ p.count;
  each = λ a. record {
    valid = (q.each a).valid;
    low = ≤ℤ-trans (p.each a).low (q.each a).low;
    high = ≤ℤ-trans (q.each a).high (p.each a).high;
  };
}

pub part-valid : {rs ls : List Range} → PartOf rs ls → Valid ls
part-valid p a = (p.each a).valid

-- ---- the two halves
module _ (rs : List Range) (wide : narrow rs ≡ false) where
  module _ (v : Valid rs) where
    same : (a : ℕ) → Range.ValidInside (at rs a) (at rs a)
    same = (part-self rs v).each

    pub lower-part : PartOf rs (lower_part rs)
    unfolding lower_part
    lower-part = record {
      count = length-set rs (widest rs) _;
      each = λ a. at_set (λ a r. Range.ValidInside r (at rs a)) rs (widest-in rs wide) (lower-inside (widest_range rs) (v (widest rs))) a (same a);
    }

    pub upper-part : PartOf rs (upper_part rs)
    unfolding upper_part
    upper-part = record {
      count = length-set rs (widest rs) _;
      each = λ a. at_set (λ a r. Range.ValidInside r (at rs a)) rs (widest-in rs wide) (upper-inside (widest_range rs) (v (widest rs))) a (same a);
    }

  -- a point of the whole is in one of the halves
  module _ {n : ℕ} {p : Point} (h : Holds n rs p) where
    abbrev Mine : ℕ → Range → Type 0
    Mine a r = a < n → In r.low r.high (coordinate p a)

    set_holds : (r : Range) → Mine (widest rs) r → Holds n (set rs (widest rs) r) p
    set_holds r m = record { each = λ a. at_set Mine rs (widest-in rs wide) m a (h.each a) }

    pub in-part : Holds n (lower_part rs) p ⊎ Holds n (upper_part rs) p
    unfolding lower_part upper_part
    in-part = go (ltb (widest rs) n) refl
      where
        halves : In (widest_range rs).low (cut_point (widest_range rs)) (coordinate p (widest rs))
            ⊎ In (cut_point (widest_range rs)) (widest_range rs).high (coordinate p (widest rs))
            → Holds n (lower_part rs) p ⊎ Holds n (upper_part rs) p
        halves (inl i) = inl (set_holds _ (λ l. i))
        halves (inr i) = inr (set_holds _ (λ l. i))

        -- a factor that no coordinate is asked of may be cut
        go : (b : Bool) → ltb (widest rs) n ≡ b → Holds n (lower_part rs) p ⊎ Holds n (upper_part rs) p
        go true e = halves (in-half (widest_range rs) (h.each (widest rs) (ltb-true (widest rs) n e)))
        go false e = inl (set_holds _ (λ l. absurd (omega (arith, ltb-false (widest rs) n e))))

-- ---- the leaves
record Inner (d : ℕ) (rs : List Range) (ls : List (List Range)) : Type 0 where
  point : (n : ℕ) (p : Point) → Holds n rs p → (l : List Range) × (Memᴰ l ls × Holds n l p)
  part : Valid rs → (l : List Range) → Memᴰ l ls → PartOf rs l
  few : length ls ≤ 2 ^ d

covered_whole : (d : ℕ) (rs : List Range) → Inner d rs (rs ∷ [])
covered_whole d rs = record {
  point = λ n p h. (rs, (Memᴰ.head refl, h));
  part = λ v l m. subst (PartOf rs) (sym (Memᴰ.eq_of_singleton m)) (part-self rs v);
  few = pow_pos d;
}

covered-halves : (d : ℕ) (rs : List Range) → narrow rs ≡ false → {ls ms : List (List Range)} → Inner d (lower_part rs) ls
    → Inner d (upper_part rs) ms → Inner (suc d) rs (ls ++ ms)
covered-halves d rs wide {ls} {ms} L U = record {
  point = λ n p h. at-point n p (in-part rs wide h);
  part = λ v l m. of_part v l (Memᴰ.append_cases ls m);
  few = omega (arith, length-append ls ms, L.few, U.few);
}
  where
    at-point : (n : ℕ) (p : Point) → Holds n (lower_part rs) p ⊎ Holds n (upper_part rs) p
        → (l : List Range) × (Memᴰ l (ls ++ ms) × Holds n l p)
    at-point n p (inl h) = let r = L.point n p h in (r.0, (Memᴰ.append_left ms r.1.0, r.1.1))
    at-point n p (inr h) = let r = U.point n p h in (r.0, (Memᴰ.append_right ls r.1.0, r.1.1))

    of_part : Valid rs → (l : List Range) → Memᴰ l ls ⊎ Memᴰ l ms → PartOf rs l
    of_part v l (inl m) = let q = lower-part rs wide v in part-trans q (L.part (part-valid q) l m)
    of_part v l (inr m) = let q = upper-part rs wide v in part-trans q (U.part (part-valid q) l m)

covered : (d : ℕ) (rs : List Range) → Inner d rs (leaves d rs)
unfolding leaves
covered zero rs = covered_whole 0 rs
covered (suc d) rs = go (narrow rs) refl (covered d (lower_part rs)) (covered d (upper_part rs))
  where
    go : (b : Bool) → narrow rs ≡ b → {ls ms : List (List Range)} → Inner d (lower_part rs) ls → Inner d (upper_part rs) ms
        → Inner (suc d) rs (cond b (rs ∷ []) (ls ++ ms))
    go true e L U = covered_whole (suc d) rs
    go false e L U = covered-halves d rs e L U

pub covers : (d : ℕ) (rs : List Range) → Valid rs → Covers d rs
covers d rs v = let c = covered d rs in record { point = c.point; part = c.part v; few = c.few }
