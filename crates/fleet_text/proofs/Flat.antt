-- The boats laid out flat: eight numbers each, one after another; and the page of these numbers. Assumes nothing.
use Prim.Native.Nat.{ℕ, ◌+◌, ◌*◌, ◌/◌, ◌%◌, ◌≤◌, ◌<◌}
use mathlib.Core.List.{List, [], ◌∷◌, ◌++◌, map-append, append_assoc, append-nil}
use mathlib.Core.Path.{◌≡◌, refl, sym, ap, ap₂, ◌∙◌}
use native.Mathlib.Numerals.{add-one}
use native.Mathlib.Omega.{arith}
use lib.IntN.{ℤ}
use lib.ListN.{length, get_or, take, length-append}
use lib.Seq.{take-suc, take_at, drop_at}
use borrow.Rule.Slice.PartMut.{put_mid}
use Rattle.std.proofs.lemmas.Slice.{take-put_mid}
use Rattle.engine.specs.declared.Engine.{Engine}
use Rattle.boats.specs.declared.Boat.{Boat}
use Rattle.boats.specs.Boats.{first_records, records, numbers_of}
use Rattle.boats.specs.Fleet.{fleet_of, fleet_of_numbers}
use Rattle.boats.specs.Promises.{Eights}
use Rattle.boats.proofs.Promises.{fleet-figures}
use Rattle.fleet_text.specs.Views.{concat, Flat}

-- ---- lists of records
concat-last : (bs : List (List ℤ)) (b : List ℤ) → concat (bs ++ (b ∷ [])) ≡ concat bs ++ b
concat-last [] b = append-nil b
concat-last (c ∷ bs) b = ap (λ (l : List ℤ). c ++ l) (concat-last bs b) ∙ sym (append_assoc c (concat bs) b)

pub eights-last : (bs : List (List ℤ)) (b : List ℤ) → Eights bs → length b ≡ 8 → Eights (bs ++ (b ∷ []))
eights-last [] b e h = (h, tt)
eights-last (c ∷ bs) b e h = (e.0, eights-last bs b e.1 h)

concat-length : (bs : List (List ℤ)) → Eights bs → length (concat bs) ≡ 8 * length bs
concat-length [] e = refl
concat-length (b ∷ bs) e = omega (arith, length-append b (concat bs), e.0, concat-length bs e.1)

first-concat : (bs : List (List ℤ)) → Eights bs → first_records (length bs) (concat bs) ≡ bs
unfolding first_records
first-concat [] e = refl
first-concat (b ∷ bs) e =
    rw (take_at b (concat bs) 8 e.0, drop_at b (concat bs) 8 e.0) (ap (λ (l : List (List ℤ)). b ∷ l) (first-concat bs e.1))

records-concat : (bs : List (List ℤ)) → Eights bs → records (concat bs) ≡ bs
records-concat bs e =
    let n : length (concat bs) / 8 ≡ length bs = omega (arith, concat-length bs e) in
    rw n (first-concat bs e)

-- what stands past an array's end: never read
abbrev absent : Boat
absent = record { numbers = [] }

-- ---- the loop: k boats are laid out
abbrev firsts : List Boat → ℕ → List (List ℤ)
firsts bs k = numbers_of (take k bs)

firsts-next : (bs : List Boat) (k : ℕ) → k < length bs → firsts bs (k + 1) ≡ firsts bs k ++ ((get_or bs k absent).numbers ∷ [])
firsts-next bs k h =
    let n : take (k + 1) bs ≡ take k bs ++ (get_or bs k absent ∷ []) = rw (add-one k) (take-suc bs k absent h) in
    ap numbers_of n ∙ map-append (λ (b : Boat). b.numbers) (take k bs) (get_or bs k absent ∷ [])

-- the next one's numbers ys are put behind them
module _ (bs : List Boat) (xs ys : List ℤ) (k : ℕ) (h : k < length bs) (p : ys ≡ (get_or bs k absent).numbers) (l : length ys ≡ 8) where
  pub laid-eights : Eights (firsts bs k) → Eights (firsts bs (k + 1))
  laid-eights e = rw (firsts-next bs k h) (eights-last (firsts bs k) (get_or bs k absent).numbers e (rw (← p) l))

  pub laid-next : (m : ℕ) → 8 * k ≤ length xs → take (8 * k) xs ≡ concat (firsts bs k) → take (8 * (k + 1)) (put_mid (8 * k) m xs ys) ≡ concat (firsts bs (k + 1))
  laid-next m w e =
      take-put_mid (8 * k) m xs ys (8 * (k + 1)) (omega (arith, l)) w ∙ ap₂ (λ (a b : List ℤ). a ++ b) e p
      ∙ sym (ap concat (firsts-next bs k h) ∙ concat-last (firsts bs k) (get_or bs k absent).numbers)

-- ---- the page of the numbers
pub flat_page : (e : Engine) (bs : List (List ℤ)) (xs : List ℤ) (n : ℕ) → n ≡ 8 * length bs → Flat bs xs → fleet_of_numbers e (take n xs) ≡ fleet_of e bs
flat_page e bs xs n p f =
    let m : length (concat bs) % 8 ≡ 0 = omega (arith, concat-length bs f.eights) in
    ap (fleet_of_numbers e) (rw p f.same) ∙ fleet-figures.same-list e (concat bs) m ∙ ap (fleet_of e) (records-concat bs f.eights)
