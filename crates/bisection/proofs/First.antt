-- Ratings together are refused by the first that is: `first-iff`. Assumes nothing.
use mathlib.Core.Path.{◌≡◌, refl, ap, ◌∙◌}
use mathlib.Core.List.Memᴰ
use mathlib.Core.List.{List, [], ◌∷◌, ◌++◌, map, Memᴰ}
use mathlib.Core.Logic.{◌⊎◌, inl, inr, ◌↔◌, ⊎_elim}
use Prim.Native.Nat.{ℕ}
use native.Mathlib.Omega.{arith}
use Rattle.rules.specs.declared.Refusal.{Refusal}
use Rattle.rules.specs.InFull.{Outcome}
use Rattle.rules.specs.InFull.{Rated, Refused}
use Rattle.rules.specs.InFull.{Rating}
use Rattle.bisection.specs.Cut.{hulled_by, hulled, together}

-- the outcome of a hull
hulled-refused : (x y : Rating) {r : Refusal} → (hulled x y).outcome ≡ Refused r
    → (x.outcome ≡ Refused r) ⊎ ((x.outcome ≡ Rated) × (y.outcome ≡ Refused r))
hulled-refused x y {r} e = go x.outcome y.outcome e
  where
    go : (o u : Outcome) → (hulled_by o x.limits u y.limits).outcome ≡ Refused r → (o ≡ Refused r) ⊎ ((o ≡ Rated) × (u ≡ Refused r))
    go (Refused q) u e = inl e
    go Rated (Refused q) e = inr (refl, e)
    go Rated Rated e = let z : ◌≡◌ {A = ℕ} 0 1 = cc in absurd (omega arith)

refused-first : (x y : Rating) {r : Refusal} → x.outcome ≡ Refused r → (hulled x y).outcome ≡ Refused r
refused-first x y e = ap (λ (o : Outcome). (hulled_by o x.limits y.outcome y.limits).outcome) e

refused-second : (x y : Rating) {r : Refusal} → x.outcome ≡ Rated → y.outcome ≡ Refused r → (hulled x y).outcome ≡ Refused r
refused-second x y e f = rw (e, f)

module _ {A : Type 0} (f : A → Rating) where
  -- the first of the list that is refused, and so
  pub record First (ls : List A) (r : Refusal) : Type 0 where
    pub before : List A
    pub part : A
    pub after : List A
    pub split : ls ≡ before ++ (part ∷ after)
    pub accepted : (a : A) → Memᴰ a before → (f a).outcome ≡ Rated
    pub refuses : (f part).outcome ≡ Refused r

  first-here : (a : A) (ls : List A) {r : Refusal} → (f a).outcome ≡ Refused r → First (a ∷ ls) r
  first-here a ls e = record {
    before = [];
    part = a;
    after = ls;
    split = refl;
    accepted = λ b m. absurd (Memᴰ.not-nil m);
    refuses = e;
  }

  first-later : (a : A) {ls : List A} {r : Refusal} → (f a).outcome ≡ Rated → First ls r → First (a ∷ ls) r
  first-later a e F = record {
    before = a ∷ F.before;
    part = F.part;
    after = F.after;
    split = ap (λ t. a ∷ t) F.split;
    accepted = λ b m. ⊎_elim (λ s. ap (λ x. (f x).outcome) s ∙ e) (F.accepted b) (Memᴰ.cases_cons m);
    refuses = F.refuses;
  }

  first_of : (ls : List A) {r : Refusal} → (together (map f ls)).outcome ≡ Refused r → First ls r
  unfolding together
  first_of [] e = let z : ◌≡◌ {A = ℕ} 0 1 = cc in absurd (omega arith)
  first_of (a ∷ []) e = first-here a [] e
  first_of (a ∷ b ∷ ls) e =
      ⊎_elim (first-here a (b ∷ ls)) (λ p. first-later a p.0 (first_of (b ∷ ls) p.1))
      (hulled-refused (f a) (together (map f (b ∷ ls))) e)

  refused-at : (before : List A) (part : A) (after : List A) {r : Refusal} → ((a : A) → Memᴰ a before → (f a).outcome ≡ Rated)
      → (f part).outcome ≡ Refused r → (together (map f (before ++ (part ∷ after)))).outcome ≡ Refused r
  unfolding together
  refused-at [] part [] g e = e
  refused-at [] part (a ∷ bs) g e = refused-first (f part) (together (map f (a ∷ bs))) e
  refused-at (a ∷ []) part after g e =
      refused-second (f a) (together (map f (part ∷ after))) (g a (Memᴰ.head refl)) (refused-at [] part after (λ b m. absurd (Memᴰ.not-nil m)) e)
  refused-at (a ∷ b ∷ bs) part after g e =
      refused-second (f a) (together (map f ((b ∷ bs) ++ (part ∷ after)))) (g a (Memᴰ.head refl))
      (refused-at (b ∷ bs) part after (λ x m. g x (Memᴰ.tail m)) e)

  pub first-iff : (ls : List A) (r : Refusal) → ((together (map f ls)).outcome ≡ Refused r) ↔ First ls r
  first-iff ls r = (
    first_of ls,
    λ F. ap (λ t. (together (map f t)).outcome) F.split ∙ refused-at F.before F.part F.after F.accepted F.refuses,
  )
