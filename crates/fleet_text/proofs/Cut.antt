-- The parting line of a text that is cut off: it is found where it was, if the cut is behind it, and never before. Assumes nothing.
use Prim.Native.Nat.{ℕ, suc, zero, ◌+◌, ◌≤◌, ◌<◌}
use mathlib.Core.Bool.{Bool, true, false, cond, ◌&&◌}
use mathlib.Core.List.{List, [], ◌∷◌}
use mathlib.Core.Path.{◌≡◌, refl, ap}
use native.Mathlib.Omega.{arith}
use lib.Dec.{eqb}
use lib.ListN.{length, take}
use Rattle.codelist.specs.Read.{peek, rest}
use Rattle.text.specs.Input.{is_line, sheet_length}
use Rattle.text.proofs.Splitting.{line-short}
use Rattle.boats.proofs.Leading.{clash}

-- ---- a line is seen where the cut is behind it
line-cut : (w s : List ℕ) (n : ℕ) → length w < n → is_line w (take n s) ≡ is_line w s
unfolding is_line peek rest
line-cut w s zero h = absurd (omega (arith, h))
line-cut [] [] (suc n) h = refl
line-cut [] (b ∷ s) (suc n) h = refl
line-cut (c ∷ w) [] (suc n) h = refl
line-cut (c ∷ w) (b ∷ s) (suc n) h = ap (λ (t : Bool). eqb b c && t) (line-cut w s n (omega (arith, h)))

pub found-cut : (w : List ℕ) (start : Bool) (s : List ℕ) (n : ℕ) → sheet_length w start s + length w < n
    → sheet_length w start (take n s) ≡ sheet_length w start s
unfolding sheet_length
found-cut w start s zero h = absurd (omega (arith, h))
found-cut w start [] (suc n) h = refl
found-cut w start (b ∷ s) (suc n) h =
    rw (line-cut w (b ∷ s) (suc n) (omega (arith, h))) (go (start && is_line w (b ∷ s)) (found-cut w (eqb b 10) s n) h)
  where
    go : {x y : ℕ} (t : Bool) → (y + length w < n → x ≡ y) → cond t 0 (suc y) + length w < suc n → cond t 0 (suc x) ≡ cond t 0 (suc y)
    go true f g = refl
    go false f g = ap suc (f (omega (arith, g)))

-- ---- no line is seen that was not there
pub and_kept : (t : Bool) {u v : Bool} → (u ≡ true → v ≡ true) → (t && u) ≡ true → (t && v) ≡ true
and_kept true f h = f h
and_kept false f h = h

line_kept : (w s : List ℕ) (n : ℕ) → is_line w (take n s) ≡ true → is_line w s ≡ true
unfolding is_line peek rest
line_kept w s zero h = clash h (line-short w [] (omega arith))
line_kept [] [] (suc n) h = h
line_kept [] (b ∷ s) (suc n) h = h
line_kept (c ∷ w) [] (suc n) h = h
line_kept (c ∷ w) (b ∷ s) (suc n) h = and_kept (eqb b c) (line_kept w s n) h

later : (start t u : Bool) {m x y : ℕ} → (u ≡ true → t ≡ true) → (m ≤ x → m ≤ y) → suc m ≤ cond (start && t) 0 (suc x)
    → suc m ≤ cond (start && u) 0 (suc y)
later false t u k f h = omega (arith, f (omega (arith, h)))
later true true u k f h = absurd (omega (arith, h))
later true false true k f h = clash (k refl) refl
later true false false k f h = omega (arith, f (omega (arith, h)))

pub late-cut : (w : List ℕ) (start : Bool) (s : List ℕ) (m n : ℕ) → m ≤ n → m ≤ sheet_length w start s → m ≤ sheet_length w start (take n s)
unfolding sheet_length
late-cut w start s zero n h l = omega arith
late-cut w start [] (suc m) n h l = absurd (omega (arith, l))
late-cut w start (b ∷ s) (suc m) zero h l = absurd (omega (arith, h))
late-cut w start (b ∷ s) (suc m) (suc n) h l =
    later start (is_line w (b ∷ s)) (is_line w (b ∷ take n s)) (line_kept w (b ∷ s) (suc n)) (late-cut w (eqb b 10) s m n (omega (arith, h))) l
