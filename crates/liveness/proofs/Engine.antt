-- The calls of the engine on what was written give the same: `calls`. Assumes nothing.
use Prim.Native.Nat.{ℕ}
use mathlib.Core.List.{List}
use mathlib.Core.Path.{◌≡◌, refl, sym, ap, ◌∙◌}
use native.Mathlib.Omega.{arith}
use lib.IntN.{ℤ}
use lib.ListN.{length, take}
use Rattle.codelist.specs.declared.Codelist.{Codelist}
use Rattle.codelist.specs.InFull.{Loaded}
use Rattle.codelist.specs.Codelist.{WellFormed}
use Rattle.codelist.specs.Load.{load_of, accepted}
use Rattle.codelist.specs.Write.{text_of}
use Rattle.rules.specs.InFull as rules
use Rattle.rules.specs.Rate.{rate_of, rated}
use Rattle.engine.specs.declared.Engine.{Engine}
use Rattle.engine.specs.InFull.{Loading, Rating, Accepted}
use Rattle.engine.specs.Engine.{loaded, loaded_of, outcome_of, rated_of}
use Rattle.liveness.specs.InFull.{Written}
use Rattle.liveness.specs.Tidied.{tidied}
use Rattle.liveness.specs.Tidy.{tidy_of, buffer_of}
use Rattle.liveness.proofs.Same.{same-rating}
use Rattle.liveness.proofs.Calls.{loads, was, was-fine, was-text}

-- an engine after an accepted load
abbrev holding : Codelist → Loading
holding c = record { outcome = Accepted; engine = record { codelist = c } }

load_is : (e : Engine) (s : List ℕ) (c : Codelist) → load_of s ≡ accepted c → loaded_of e s ≡ holding c
unfolding loaded_of
load_is e s c h = ap (λ (x : Loaded). loaded e x.outcome x.codelist) h

-- an accepted rating is limits
rated-is : (x : rules.Rating) → outcome_of x.outcome ≡ Accepted → x ≡ rated x.limits
rated-is x h = ap (λ (o : rules.Outcome). record { outcome = o; limits = x.limits }) (go x.outcome h)
  where
    go : (o : rules.Outcome) → outcome_of o ≡ Accepted → o ≡ rules.Rated
    go rules.Rated h = refl
    go (rules.Refused r) h = let z : ◌≡◌ {A = ℕ} 0 1 = cc in absurd (omega arith)

same-rated : (c : Codelist) → WellFormed c → (xs : List ℤ) → (rated_of (record { codelist = c }) xs).outcome ≡ Accepted
    → rated_of (record { codelist = tidied c }) xs ≡ rated_of (record { codelist = c }) xs
unfolding rated_of
same-rated c w xs h =
    let r = rated-is (rate_of c xs) h in
    ap (λ (x : rules.Rating). record { outcome = outcome_of x.outcome; limits = x.limits })
    ((same-rating c w xs).result (rate_of c xs).limits r ∙ sym r)

pub calls : (e f : Engine) (s b : List ℕ) (n : ℕ) (xs : List ℤ)
    → (loaded_of e s).outcome ≡ Accepted → (rated_of (loaded_of e s).engine xs).outcome ≡ Accepted → tidy_of s (length b) ≡ Written n
    → let t = take n (buffer_of s b) in
    ((loaded_of f t).outcome ≡ Accepted) × (rated_of (loaded_of f t).engine xs ≡ rated_of (loaded_of e s).engine xs)
calls e f s b n xs l r h =
    let c = (was s b n h).codelist in
    let old = load_is e s c (was s b n h).loaded in
    let new = ap (loaded_of f) (was-text s b n h) ∙ load_is f (text_of (tidied c)) (tidied c) (loads c (was-fine s b n h)) in
    let run : Loading → Rating = λ x. rated_of x.engine xs in (
      ap (λ (x : Loading). x.outcome) new,
      ap run new ∙ same-rated c (was-fine s b n h) xs (sym (ap (λ (x : Loading). (run x).outcome) old) ∙ r) ∙ sym (ap run old),
    )
