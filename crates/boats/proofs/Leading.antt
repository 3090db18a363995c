-- The greatest high end of the running total, and its place, are those of the report. Assumes nothing.
use mathlib.Core.Path.{◌≡◌, refl, ap, ◌∙◌}
use mathlib.Core.Bool.{Bool, true, false, cond, ◌&&◌, ◌||◌}
use mathlib.Core.List.{List, [], ◌∷◌}
use mathlib.Core.Logic.{◌⊎◌, inl, inr}
use Prim.Native.Nat.{ℕ, zero, suc, ◌+◌, ◌<◌}
use native.Mathlib.Omega.{arith}
use borrow.Author.Tests.{ltb-true, ltb-false}
use lib.Dec.{ltb, eqb, eqb-suc-zero}
use lib.IntN.{ℤ}
use lib.ListN.{length, get_or}
use lib.Signed.{le_z, lt_z, ◌≤ℤ◌, ◌<ℤ◌}
use Rattle.algebra.proofs.Int.{ints}
use Rattle.exact.proofs.Machine.{lt_z-true, lt_z-false, ≤ℤ-le_z}
use Rattle.engine.specs.InFull.{Outcome}
use Rattle.engine.specs.InFull.{Accepted, Refused}
use Rattle.engine.specs.InFull.{Rating}
use Rattle.boats.specs.declared.totals.Sum.{Sum}
use Rattle.boats.specs.Report.{all, position, accepts, is_accepted, high_end, at_most, leads}
use Rattle.boats.specs.Promises.{First}
use Rattle.boats.specs.Walk.{start, exceeds, with_value, with_number, with_outcome, with_rating}
use Rattle.boats.proofs.Tally.{tallied}

-- true and false are two
pub clash : {A : Type 0} {b : Bool} → b ≡ true → b ≡ false → A
clash p q = let z : ◌≡◌ {A = ℕ} 0 1 = cc in let f : ⊥ = omega arith in absurd f

-- below a successor
last_or : (j k : ℕ) → j < suc k → (j < k) ⊎ (j ≡ k)
last_or j k h = go (ltb j k) refl
  where
    go : (b : Bool) → ltb j k ≡ b → (j < k) ⊎ (j ≡ k)
    go true e = inl (ltb-true j k e)
    go false e = inr (omega (arith, ltb-false j k e))

module _ (d : Rating) (rs : List Rating) where
  abbrev at : ℕ → Rating
  at j = get_or rs j d

  -- of the first k: g is the place of the first with the greatest high end, from 1, and t that high end; g is 0 if none is accepted
  pub record Best (k g : ℕ) (t : ℤ) : Type 0 where
    pub none : g ≡ 0 → (j : ℕ) → j < k → is_accepted (at j) ≡ false
    pub some : (i : ℕ) → g ≡ suc i → First at k i × (t ≡ high_end (at i))

  best-start : (t : ℤ) → Best 0 0 t
  best-start t = record { none = λ e j h. absurd (omega (arith, h)); some = λ i e. absurd (omega (arith, e)) }

  module _ (k g : ℕ) (t : ℤ) (b : Best k g t) where
    -- a refused one changes nothing
    best-refused : is_accepted (at k) ≡ false → Best (suc k) g t
    best-refused refused = record {
      none = λ e j h. none e j (last_or j k h);
      some = λ i e. let f = b.some i e in (
        record {
          inside = omega (arith, f.0.inside);
          accepted = f.0.accepted;
          most = λ j h a. most i f.0 j (last_or j k h) a;
          first = f.0.first;
        },
        f.1,
      );
    }
      where
        none : g ≡ 0 → (j : ℕ) → (j < k) ⊎ (j ≡ k) → is_accepted (at j) ≡ false
        none e j (inl h) = b.none e j h
        none e j (inr h) = rw h refused

        most : (i : ℕ) → First at k i → (j : ℕ) → (j < k) ⊎ (j ≡ k) → is_accepted (at j) ≡ true → high_end (at j) ≤ℤ high_end (at i)
        most i f j (inl h) a = f.most j h a
        most i f j (inr h) a = clash (rw h at a) refused

    -- one that exceeds: it is above all before
    under : (eqb g 0 || lt_z t (high_end (at k))) ≡ true → (j : ℕ) → j < k → is_accepted (at j) ≡ true → high_end (at j) <ℤ high_end (at k)
    under x j h a = go g refl
      where
        go : (m : ℕ) → g ≡ m → high_end (at j) <ℤ high_end (at k)
        go zero e = clash a (b.none e j h)
        go (suc i) e =
            let f = b.some i e in
            let l : t <ℤ high_end (at k) = lt_z-true t (high_end (at k)) (rw (e, eqb-suc-zero i) at x) in
            let m = f.0.most j h a in
            let s : t ≡ high_end (at i) = f.1 in
            omega (ints, l, m, s)

    best-more : is_accepted (at k) ≡ true → (eqb g 0 || lt_z t (high_end (at k))) ≡ true → Best (suc k) (k + 1) (high_end (at k))
    best-more taken x = record {
      none = λ e j h. absurd (omega (arith, e));
      some = λ i e. let same : k ≡ i = omega (arith, e) in rw (← same) (
        record {
          inside = omega arith;
          accepted = taken;
          most = λ j h a. most j (last_or j k h) a;
          first = λ j h a. under x j h a;
        },
        refl,
      );
    }
      where
        most : (j : ℕ) → (j < k) ⊎ (j ≡ k) → is_accepted (at j) ≡ true → high_end (at j) ≤ℤ high_end (at k)
        most j (inl h) a = let l = under x j h a in omega (ints, l)
        most j (inr h) a = rw h (omega ints)

    best-less : is_accepted (at k) ≡ true → (eqb g 0 || lt_z t (high_end (at k))) ≡ false → Best (suc k) g t
    best-less taken x = go g refl
      where
        go : (m : ℕ) → g ≡ m → Best (suc k) g t
        go zero e = clash refl (rw e at x)
        go (suc n) e = record {
          none = λ z. absurd (omega (arith, z, e));
          some = λ i z. let f = b.some i z in (
            record {
              inside = omega (arith, f.0.inside);
              accepted = f.0.accepted;
              most = λ j h a. most i f.0 f.1 j (last_or j k h) a;
              first = f.0.first;
            },
            f.1,
          );
        }
          where
            most : (i : ℕ) → First at k i → t ≡ high_end (at i) → (j : ℕ) → (j < k) ⊎ (j ≡ k) → is_accepted (at j) ≡ true → high_end (at j) ≤ℤ high_end (at i)
            most i f s j (inl h) a = f.most j h a
            most i f s j (inr h) a =
                let l : high_end (at k) ≤ℤ t = lt_z-false t (high_end (at k)) (rw (e, eqb-suc-zero n) at x) in
                rw h (omega (ints, l, s))

  best-outcome : (k : ℕ) (s : Sum) (o : Outcome) → (at k).outcome ≡ o → Best k s.report.greatest s.top
      → Best (suc k) (with_outcome k s o (at k).limits.value).report.greatest (with_outcome k s o (at k).limits.value).top
  unfolding with_value with_number
  best-outcome k s Accepted e b = go (exceeds s (high_end (at k))) refl
    where
      go : (x : Bool) → exceeds s (high_end (at k)) ≡ x → Best (suc k) (cond x (k + 1) s.report.greatest) (cond x (high_end (at k)) s.top)
      go true h = best-more k s.report.greatest s.top b (ap accepts e) h
      go false h = best-less k s.report.greatest s.top b (ap accepts e) h
  best-outcome k s (Refused r) e b = best-refused k s.report.greatest s.top b (ap accepts e)

  best-tallied : (us : List Rating) (k : ℕ) (s : Sum) → ((j : ℕ) → get_or us j d ≡ at (k + j)) → Best k s.report.greatest s.top
      → Best (k + length us) (tallied k s us).report.greatest (tallied k s us).top
  unfolding tallied
  best-tallied [] k s same b = let e : k ≡ k + 0 = omega arith in rw (← e) b
  best-tallied (u ∷ us) k s same b =
      let e : k + length (u ∷ us) ≡ k + 1 + length us = omega arith in
      let zero_more : k + 0 ≡ k = omega arith in
      let here : u ≡ at k = same 0 ∙ ap at zero_more in
      let next : suc k ≡ k + 1 = omega arith in
      rw (e, here) (best-tallied us (k + 1) (with_rating k s (at k)) (λ j. same (suc j) ∙ ap at (omega arith))
      (rw (← next) (best-outcome k s (at k).outcome refl b)))

  pub best : Best (length rs) (tallied 0 start rs).report.greatest (tallied 0 start rs).top
  best =
      let e : length rs ≡ 0 + length rs = omega arith in
      rw e (best-tallied rs 0 start (λ j. ap at (omega arith)) (best-start _))

  -- ---- the report's place
  position-none : (p : Rating → Bool) (us : List Rating) → ((j : ℕ) → j < length us → p (get_or us j d) ≡ false) → position p us ≡ 0
  position-none p [] f = refl
  position-none p (u ∷ us) f = rw (f 0 (omega arith), position-none p us (λ j h. f (suc j) (omega (arith, h))))

  position_some : (p : Rating → Bool) (us : List Rating) (i : ℕ) → i < length us → p (get_or us i d) ≡ true
      → ((j : ℕ) → j < i → p (get_or us j d) ≡ false) → position p us ≡ suc i
  position_some p [] i h t f = absurd (omega (arith, h))
  position_some p (u ∷ us) zero h t f = rw t
  position_some p (u ∷ us) (suc i) h t f = rw (f 0 (omega arith), position_some p us i (omega (arith, h)) t (λ j l. f (suc j) (omega (arith, l))))

  all_true : (p : Rating → Bool) (us : List Rating) → ((j : ℕ) → j < length us → p (get_or us j d) ≡ true) → all p us ≡ true
  all_true p [] f = refl
  all_true p (u ∷ us) f = rw (f 0 (omega arith), all_true p us (λ j h. f (suc j) (omega (arith, h))))

  and-false : (a b : Bool) → b ≡ false → (a && b) ≡ false
  and-false true b e = e
  and-false false b e = refl

  all-false : (p : Rating → Bool) (us : List Rating) (i : ℕ) → i < length us → p (get_or us i d) ≡ false → all p us ≡ false
  all-false p [] i h t = absurd (omega (arith, h))
  all-false p (u ∷ us) zero h t = rw t
  all-false p (u ∷ us) (suc i) h t = and-false (p u) (all p us) (all-false p us i (omega (arith, h)) t)

  pub position-is : (g : ℕ) (t : ℤ) → Best (length rs) g t → position (leads rs) rs ≡ g
  unfolding leads
  position-is zero t b = position-none (leads rs) rs (λ j h. rw (b.none refl j h))
  position-is (suc i) t b = position_some (leads rs) rs i f.inside passes (λ j h. fails j h (is_accepted (at j)) refl)
    where
      f : First at (length rs) i
      f = (b.some i refl).0

      bounded : (j : ℕ) → j < length rs → (a : Bool) → is_accepted (at j) ≡ a → cond a (le_z (high_end (at j)) (high_end (at i))) true ≡ true
      bounded j h true e = ≤ℤ-le_z (high_end (at j)) (high_end (at i)) (f.most j h e)
      bounded j h false e = refl

      passes : (is_accepted (at i) && all (at_most (at i)) rs) ≡ true
      passes = rw f.accepted (all_true (at_most (at i)) rs (λ j h. bounded j h (is_accepted (at j)) refl))

      above : (j : ℕ) → high_end (at j) <ℤ high_end (at i) → (b : Bool) → le_z (high_end (at i)) (high_end (at j)) ≡ b → b ≡ false
      above j l true e = absurd (let m : high_end (at i) ≤ℤ high_end (at j) = record { le = rw e tt } in omega (ints, l, m))
      above j l false e = refl

      fails : (j : ℕ) → j < i → (a : Bool) → is_accepted (at j) ≡ a → (a && all (at_most (at j)) rs) ≡ false
      fails j h false e = refl
      fails j h true e =
          all-false (at_most (at j)) rs i f.inside
          (rw f.accepted (above j (f.first j h e) (le_z (high_end (at i)) (high_end (at j))) refl))
