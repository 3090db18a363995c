-- Laws of the new numbers, and of a list's members at kept lines. Assumes nothing.
use Prim.Native.Nat.{ℕ, zero, suc, ◌+◌, ◌-◌, ◌≤◌, ◌<◌}
use mathlib.Core.Bool.{Bool, true, false, cond}
use mathlib.Core.List.{List, [], ◌∷◌, ◌++◌}
use mathlib.Core.Path.{◌≡◌, refl, sym, ap, ◌∙◌}
use native.Mathlib.Decide.{ℕ_discrete}
use native.Mathlib.Omega.{arith}
use lib.ListN.{length, get_or}
use Rattle.liveness.specs.Tidied.{picked, position}

module _ (k : ℕ → Bool) where
  pub position-kept : (i : ℕ) → k (suc i) ≡ true → position k (suc i) ≡ suc (position k i)
  unfolding position
  position-kept i e = rw e

  pub position-dropped : (i : ℕ) → k (suc i) ≡ false → position k (suc i) ≡ position k i
  unfolding position
  position-dropped i e = rw e

  -- a line more: the number stays or is one more
  pub record Turn (i : ℕ) : Type 0 where
    pub least : position k i ≤ position k (suc i)
    pub most : position k (suc i) ≤ suc (position k i)

  pub turn : (i : ℕ) → Turn i
  turn i = go (k (suc i)) refl
    where
      go : (b : Bool) → k (suc i) ≡ b → Turn i
      go true e = record { least = omega (arith, position-kept i e); most = omega (arith, position-kept i e) }
      go false e = record { least = omega (arith, position-dropped i e); most = omega (arith, position-dropped i e) }

  -- it rises, and at a kept line it is above all before
  pub position-rises : (i n : ℕ) → position k i ≤ position k (i + n)
  position-rises i zero = let z : i + 0 ≡ i = omega arith in rw z (omega arith)
  position-rises i (suc n) =
      let a : i + suc n ≡ suc (i + n) = omega arith in
      rw a (omega (arith, position-rises i n, (turn (i + n)).least))

  pub position-above : (e i : ℕ) → e < i → k i ≡ true → position k e < position k i
  position-above e zero h g = absurd (omega arith)
  position-above e (suc i) h g =
      let a : e + (i - e) ≡ i = omega arith in
      omega (arith, position-kept i g, rw a at (position-rises e (i - e)))

  -- and it is no greater than the old number, 1 or more at a kept line
  pub position-least : (i : ℕ) → position k i ≤ i
  unfolding position
  position-least zero = omega arith
  position-least (suc i) = omega (arith, position-least i, (turn i).most)

  -- where all lines up to i are kept, it is the old number
  pub position-same : (i : ℕ) → ((j : ℕ) → 1 ≤ j → j ≤ i → k j ≡ true) → position k i ≡ i
  unfolding position
  position-same zero h = refl
  position-same (suc i) h = position-kept i (h (suc i) (omega arith) (omega arith)) ∙ ap suc (position-same i (λ j p q. h j p (omega arith)))

  -- where another test says the same of the lines up to i
  pub position-alike : (l : ℕ → Bool) (i : ℕ) → ((j : ℕ) → j ≤ i → k j ≡ l j) → position k i ≡ position l i
  unfolding position
  position-alike l zero h = refl
  position-alike l (suc i) h =
      rw (h (suc i) (omega arith)) (ap (λ (n : ℕ). cond (l (suc i)) (suc n) n) (position-alike l i (λ j p. h j (omega arith))))

  -- every new number is that of a kept line
  pub record Found (j e : ℕ) : Type 0 where
    pub line : ℕ
    pub low : 1 ≤ line
    pub high : line ≤ e
    pub kept : k line ≡ true
    pub number : position k line ≡ j

  pub found : (j e : ℕ) → 1 ≤ j → j ≤ position k e → Found j e
  unfolding position
  found j zero p q = absurd (omega arith)
  found j (suc e) p q = go (ℕ_discrete j (position k (suc e))) (k (suc e)) refl (found j e p)
    where
      later : Found j e → Found j (suc e)
      later f = record { line = f.line; low = f.low; high = omega (arith, f.high); kept = f.kept; number = f.number }

      go : Dec (j ≡ position k (suc e)) → (b : Bool) → k (suc e) ≡ b → (j ≤ position k e → Found j e) → Found j (suc e)
      go (yes y) true g f = record { line = suc e; low = omega arith; high = omega arith; kept = g; number = sym y }
      go (no n) true g f = later (f (omega (arith, position-kept e g)))
      go d false g f = later (f (omega (arith, position-dropped e g)))

  -- ════ the members at kept lines ════

  module _ {A : Type 0} where
    pub picked-kept : (e : ℕ) (x : A) (xs : List A) → k (suc e) ≡ true → picked k e (x ∷ xs) ≡ x ∷ picked k (suc e) xs
    unfolding picked
    picked-kept e x xs g = rw g

    pub picked-dropped : (e : ℕ) (x : A) (xs : List A) → k (suc e) ≡ false → picked k e (x ∷ xs) ≡ picked k (suc e) xs
    unfolding picked
    picked-dropped e x xs g = rw g

    -- how many there are
    pub picked-length : (e : ℕ) (xs : List A) → position k e + length (picked k e xs) ≡ position k (e + length xs)
    unfolding picked
    picked-length e [] = let z : e + 0 ≡ e = omega arith in rw z (omega arith)
    picked-length e (x ∷ xs) = go (k (suc e)) refl (picked-length (suc e) xs)
      where
        a : suc e + length xs ≡ e + suc (length xs)
        a = omega arith

        go : (b : Bool) → k (suc e) ≡ b → position k (suc e) + length (picked k (suc e) xs) ≡ position k (suc e + length xs)
            → position k e + length (cond b (x ∷ picked k (suc e) xs) (picked k (suc e) xs)) ≡ position k (e + suc (length xs))
        go true g h = omega (arith, rw a at h, position-kept e g)
        go false g h = omega (arith, rw a at h, position-dropped e g)

    -- the member at a kept line stands at its new number
    pub picked-at : (d : A) (e : ℕ) (xs : List A) (i : ℕ) → e < i → i ≤ e + length xs → k i ≡ true
        → get_or (picked k e xs) (position k i - position k e - 1) d ≡ get_or xs (i - e - 1) d
    picked-at d e [] i p q g = absurd (omega arith)
    picked-at d e (x ∷ xs) i p q g = go (ℕ_discrete i (suc e)) (k (suc e)) refl (picked-at d (suc e) xs i)
      where
        Goal : Type 0
        Goal = get_or (picked k e (x ∷ xs)) (position k i - position k e - 1) d ≡ get_or (x ∷ xs) (i - e - 1) d

        go : Dec (i ≡ suc e) → (b : Bool) → k (suc e) ≡ b
            → (suc e < i → i ≤ suc e + length xs → k i ≡ true
            → get_or (picked k (suc e) xs) (position k i - position k (suc e) - 1) d ≡ get_or xs (i - suc e - 1) d) → Goal
        go (yes y) b h ih =
            let t : k (suc e) ≡ true = rw y at g in
            let a : position k i - position k e - 1 ≡ 0 = omega (arith, ap (position k) y, position-kept e t) in
            let z : i - e - 1 ≡ 0 = omega arith in
            rw (a, z, picked-kept e x xs t)
        go (no n) true h ih =
            let l = position-above (suc e) i (omega arith) g in
            let a : position k i - position k e - 1 ≡ suc (position k i - position k (suc e) - 1) = omega (arith, position-kept e h) in
            let z : i - e - 1 ≡ suc (i - suc e - 1) = omega arith in
            rw (a, z, picked-kept e x xs h) (ih (omega arith) (omega arith) g)
        go (no n) false h ih =
            let z : i - e - 1 ≡ suc (i - suc e - 1) = omega arith in
            rw (z, picked-dropped e x xs h, ← position-dropped e h) (ih (omega arith) (omega arith) g)

    -- one member more
    pub picked-append : (e : ℕ) (xs ys : List A) → picked k e (xs ++ ys) ≡ picked k e xs ++ picked k (e + length xs) ys
    unfolding picked
    picked-append e [] ys = let z : e + 0 ≡ e = omega arith in rw z
    picked-append e (x ∷ xs) ys = go (k (suc e)) (picked-append (suc e) xs ys)
      where
        a : suc e + length xs ≡ e + suc (length xs)
        a = omega arith

        go : (b : Bool) → picked k (suc e) (xs ++ ys) ≡ picked k (suc e) xs ++ picked k (suc e + length xs) ys
            → cond b (x ∷ picked k (suc e) (xs ++ ys)) (picked k (suc e) (xs ++ ys))
            ≡ cond b (x ∷ picked k (suc e) xs) (picked k (suc e) xs) ++ picked k (e + suc (length xs)) ys
        go true h = ap (λ (l : List A). x ∷ l) (rw a at h)
        go false h = rw a at h

    -- all of them, where all lines are kept
    pub picked_all : (e : ℕ) (xs : List A) → ((j : ℕ) → e < j → j ≤ e + length xs → k j ≡ true) → picked k e xs ≡ xs
    unfolding picked
    picked_all e [] h = refl
    picked_all e (x ∷ xs) h =
        picked-kept e x xs (h (suc e) (omega arith) (omega arith))
        ∙ ap (λ (l : List A). x ∷ l) (picked_all (suc e) xs (λ j p q. h j (omega arith) (omega arith)))
