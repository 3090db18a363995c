-- Lists related one by one: a member, one more, the first so many, how many, one list after another. Assumes nothing.
use Prim.Native.Nat.{ℕ, zero, suc}
use mathlib.Core.List.{List, [], ◌∷◌, ◌++◌}
use mathlib.Core.Path.{◌≡◌, refl, ap}
use lib.ListN.{get_or, length, take}
use Rattle.codelist.specs.Exchange.{OneByOne, none, more}

module _ {A : Type 0} (R : A → A → Type 0) where
  -- with a related default for what is not there
  pub each_at : {d e : A} {xs ys : List A} → R d e → OneByOne R xs ys → (i : ℕ) → R (get_or xs i d) (get_or ys i e)
  each_at r none i = r
  each_at r (more h hs) zero = h
  each_at r (more h hs) (suc i) = each_at r hs i

  pub each_append : {xs ys us vs : List A} → OneByOne R xs ys → OneByOne R us vs → OneByOne R (xs ++ us) (ys ++ vs)
  each_append none r = r
  each_append (more h hs) r = more h (each_append hs r)

  pub each_snoc : {x y : A} {xs ys : List A} → OneByOne R xs ys → R x y → OneByOne R (xs ++ (x ∷ [])) (ys ++ (y ∷ []))
  each_snoc hs r = each_append hs (more r none)

  pub each_take : (n : ℕ) {xs ys : List A} → OneByOne R xs ys → OneByOne R (take n xs) (take n ys)
  each_take zero hs = none
  each_take (suc n) none = none
  each_take (suc n) (more h hs) = more h (each_take n hs)

  pub each-length : {xs ys : List A} → OneByOne R xs ys → length xs ≡ length ys
  each-length none = refl
  each-length (more h hs) = ap suc (each-length hs)
