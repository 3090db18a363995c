-- What a turn of the walk leaves to do. Assumes nothing.
use mathlib.Core.Path.{◌≡◌, sym, ap, ◌∙◌}
use mathlib.Core.List.{List, ◌∷◌, map}
use Prim.Native.Nat.{ℕ, suc, ◌+◌, ◌≤◌, ◌<◌}
use native.Mathlib.Omega.{arith}
use native.Mathlib.Numerals.{add-one}
use lib.IntN.{ℤ}
use lib.ListN.{length, get_or, drop, length-map, get_or-map, drop_of_length-le}
use lib.Seq.{drop-cons}
use Rattle.engine.specs.declared.Engine.{Engine}
use Rattle.boats.specs.declared.totals.Sum.{Sum}
use Rattle.boats.specs.Walk.{start, with_boat, walked, Held}
use Rattle.boats.proofs.Adding.{held_next}

-- k boats are walked, with the total s: what is left to do is what there was to do
pub record Going (e : Engine) (bs : List (List ℤ)) (k : ℕ) (s : Sum) : Type 0 where
  pub held : Held k s
  pub same : walked e k s (drop k bs) ≡ walked e 0 start bs

-- one boat more
pub going_next : {X : Type 0} {e : Engine} (f : X → List ℤ) (xs : List X) {k : ℕ} {s : Sum} → Going e (map f xs) k s → k < length xs → (x : X) (u : Sum)
    → x ≡ get_or xs k x → u ≡ with_boat e k s (f x) → Going e (map f xs) (k + 1) u
unfolding walked
going_next {e = e} f xs {k} {s} g l x u ex eu = record {
  held = rw eu (held_next e k s (f x) g.held);
  same =
      let here : drop k (map f xs) ≡ f x ∷ drop (k + 1) (map f xs) =
      rw add-one (drop-cons (map f xs) k (f x) (omega (arith, l, length-map xs f)) ∙ ap (λ (y : List ℤ). y ∷ drop (suc k) (map f xs)) (get_or-map f xs k x ∙ ap f (sym ex))) in
      ap (λ (z : Sum). walked e (k + 1) z (drop (k + 1) (map f xs))) eu ∙ (sym (ap (walked e k s) here) ∙ g.same);
}

-- none is left
pub going_end : {e : Engine} {bs : List (List ℤ)} {k : ℕ} {s : Sum} → Going e bs k s → length bs ≤ k → s ≡ walked e 0 start bs
unfolding walked
going_end {e} {bs} {k} {s} g l = sym (ap (walked e k s) (drop_of_length-le bs l)) ∙ g.same
