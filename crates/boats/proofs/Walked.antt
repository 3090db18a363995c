-- The pages of numbers and of structs: their walks give the report of their records. Assumes nothing.
use mathlib.Core.Path.{◌≡◌, refl, sym, ap, ◌∙◌}
use mathlib.Core.Bool.{Bool, true, false}
use mathlib.Core.List.{List, [], ◌∷◌, map}
use mathlib.Core.Logic.{◌⊎◌, inl, inr}
use Rattle.std.proofs.Math.Bool.{and-true, and-false}
use Prim.Native.Nat.{ℕ, zero, suc, ◌+◌, ◌*◌, ◌/◌, ◌%◌, ◌≤◌, ◌<◌}
use native.Mathlib.Omega.{arith}
use native.Mathlib.Nat.{div-add-mod'}
use borrow.Author.Tests.{leb-true, leb-false, le-leb, lt-leb, eq-eqb, ne_eqb}
use lib.Dec.{leb}
use lib.IntN.{ℤ, +ℤ_idl}
use lib.ListN.{length, get_or, take, drop, length-map, length-drop}
use lib.Seq.{drop-drop, length-take-le}
use Rattle.codelist.specs.Codelist.{ratable}
use Rattle.engine.specs.declared.Engine.{Engine}
use Rattle.boats.specs.Boats.{first_records, records, boat_rating, ratings_of}
use Rattle.boats.specs.declared.Boat.{Boat}
use Rattle.boats.specs.declared.Report.{Report}
use Rattle.boats.specs.declared.totals.Sum.{Sum}
use Rattle.boats.specs.declared.Refusal.TheVariants.{NoCodelist, Boats}
use Rattle.boats.specs.Report.{figures_of, report_of}
use Rattle.boats.specs.Fleet.{reported, refused, fleet_of, fleet_of_numbers}
use Rattle.boats.specs.Promises.{Eights}
use Rattle.boats.specs.Walk.{boat_of, no_boat, start, walked}
use Rattle.std.specs.Simd.{first_chunks}
use Rattle.std.proofs.lemmas.List.{map-id}
use Rattle.boats.proofs.Tally.{tallied, walked-tallied, tally}
use Rattle.boats.proofs.Leading.{best, position-is}

-- ---- the report of a walk
figures-tallied : (e : Engine) (bs : List (List ℤ)) → (tallied 0 start (ratings_of e bs)).report ≡ report_of e bs
unfolding figures_of
figures-tallied e bs =
    let rs = ratings_of e bs in
    let u = tallied 0 start rs in
    let t = tally 0 start rs in
    let a : u.report.accepted ≡ (figures_of rs).accepted = omega (arith, t.accepted) in
    let r : u.report.range ≡ (figures_of rs).range = omega (arith, t.range) in
    let d : u.report.divisor ≡ (figures_of rs).divisor = omega (arith, t.divisor) in
    let m : u.report.limit ≡ (figures_of rs).limit = omega (arith, t.limit) in
    let l : u.report.low ≡ (figures_of rs).low = t.low ∙ +ℤ_idl _ in
    let h : u.report.high ≡ (figures_of rs).high = t.high ∙ +ℤ_idl _ in
    let g : u.report.greatest ≡ (figures_of rs).greatest = sym (position-is (boat_rating e []) rs u.report.greatest u.top (best (boat_rating e []) rs)) in
    let whole : ◌≡◌ {A = Report} (record { accepted = u.report.accepted; range = u.report.range; divisor = u.report.divisor; limit = u.report.limit; low = u.report.low; high = u.report.high; greatest = u.report.greatest }) (report_of e bs) = rw (a, r, d, m, l, h, g) in
    whole

pub figures-walked : (e : Engine) (bs : List (List ℤ)) → (walked e 0 start bs).report ≡ report_of e bs
figures-walked e bs = ap (λ (s : Sum). s.report) (walked-tallied e 0 start bs) ∙ figures-tallied e bs

-- ---- numbers
pub length-records : (m : ℕ) (xs : List ℤ) → length (first_records m xs) ≡ m
unfolding first_records
length-records zero xs = refl
length-records (suc m) xs = ap suc (length-records m (drop 8 xs))

eight-first : (m : ℕ) (xs : List ℤ) → 8 * m ≤ length xs → Eights (first_records m xs)
unfolding first_records
eight-first zero xs h = tt
eight-first (suc m) xs h = (length-take-le 8 xs (omega (arith, h)), eight-first m (drop 8 xs) (omega (arith, h, length-drop 8 xs)))

pub all-eight : (xs : List ℤ) → Eights (records xs)
all-eight xs = eight-first (length xs / 8) xs (omega (arith, div-add-mod' (length xs) 8))

-- the boats of the records: how many there are, and the one at k
abbrev pub boats_of : List ℤ → List Boat
boats_of xs = map boat_of (records xs)

pub length-boats : (xs : List ℤ) → length (boats_of xs) ≡ length xs / 8
length-boats xs = length-map (records xs) boat_of ∙ length-records (length xs / 8) xs

record-at : (m k : ℕ) (xs : List ℤ) → k < m → get_or (map boat_of (first_records m xs)) k no_boat ≡ boat_of (take 8 (drop (8 * k) xs))
unfolding first_records
record-at zero k xs h = absurd (omega (arith, h))
record-at (suc m) zero xs h = refl
record-at (suc m) (suc k) xs h =
    let e : 8 + 8 * k ≡ 8 * suc k = omega arith in
    record-at m k (drop 8 xs) (omega (arith, h)) ∙ ap (λ (ys : List ℤ). boat_of (take 8 ys)) (drop-drop (8 * k) 8 xs ∙ ap (λ (j : ℕ). drop j xs) e)

module _ (xs : List ℤ) where
  pub record_is : (k : ℕ) {t : ℕ} → k < t → t ≤ length (boats_of xs) → get_or (boats_of xs) k no_boat ≡ boat_of (take 8 (drop (8 * k) xs))
  record_is k h l = record-at (length xs / 8) k xs (omega (arith, h, l, length-boats xs))

  -- its numbers are there
  pub room : {k t : ℕ} → k < t → t ≤ length (boats_of xs) → 8 * k + 8 ≤ length xs
  room h l = omega (arith, h, l, length-boats xs, div-add-mod' (length xs) 8)

-- the records are what the numbers are cut into
pub records-cut : (m : ℕ) (xs : List ℤ) → first_chunks 8 m xs ≡ first_records m xs
unfolding first_records
records-cut zero xs = refl
records-cut (suc m) xs = ap (λ (rs : List (List ℤ)). take 8 xs ∷ rs) (records-cut m (drop 8 xs))

-- the test of a page's length, in boats and in numbers
pub boats-fit : (n : ℕ) → n % 8 ≡ 0 → leb (n / 8) 1000 ≡ leb n 8000
boats-fit n z = go (leb n 8000) refl
  where
    go : (c : Bool) → leb n 8000 ≡ c → leb (n / 8) 1000 ≡ c
    go true q = le-leb (n / 8) 1000 (omega (arith, leb-true n 8000 q, div-add-mod' n 8))
    go false q = lt-leb (n / 8) 1000 (omega (arith, leb-false n 8000 q, div-add-mod' n 8, z))

-- ---- the page, by the tests that led to it
module _ (e : Engine) (bs : List (List ℤ)) where
  pub page_without : ratable e.codelist ≡ false → refused NoCodelist ≡ fleet_of e bs
  unfolding fleet_of
  page_without r = rw r

  module _ (r : ratable e.codelist ≡ true) where
    pub page-over : 1000 < length bs → refused Boats ≡ fleet_of e bs
    unfolding fleet_of
    page-over l = rw (r, lt-leb (length bs) 1000 l)

    pub page-reported : {s : Sum} → length bs ≤ 1000 → s ≡ walked e 0 start bs → reported s.report ≡ fleet_of e bs
    unfolding fleet_of
    page-reported {s} l w = ap (λ (u : Sum). reported u.report) w ∙ (ap reported (figures-walked e bs) ∙ rw (r, le-leb (length bs) 1000 l))

module _ (e : Engine) (xs : List ℤ) where
  -- one page for both forms, where the last record is finished
  pub same-page : length xs % 8 ≡ 0 → fleet_of_numbers e xs ≡ fleet_of e (records xs)
  unfolding fleet_of fleet_of_numbers
  same-page h = rw (eq-eqb (length xs % 8) 0 h, length-records (length xs / 8) xs, boats-fit (length xs) h, and-true (leb (length xs) 8000))

  pub unfinished : ratable e.codelist ≡ true → ¬ (length xs % 8 ≡ 0) → refused Boats ≡ fleet_of_numbers e xs
  unfolding fleet_of_numbers
  unfinished r z = rw (r, ne_eqb (length xs % 8) 0 z, and-false (leb (length xs) 8000))

  without-numbers : ratable e.codelist ≡ false → fleet_of e (records xs) ≡ fleet_of_numbers e xs
  unfolding fleet_of fleet_of_numbers
  without-numbers r = rw r

  -- of what the numbers are cut into
  pub cut-page : {rs : List (List ℤ)} → rs ≡ first_chunks 8 (length xs / 8) xs → (ratable e.codelist ≡ false) ⊎ (length xs % 8 ≡ 0)
      → fleet_of e (map (λ (b : List ℤ). b) rs) ≡ fleet_of_numbers e xs
  cut-page {rs} p o = ap (fleet_of e) (map-id rs ∙ (p ∙ records-cut (length xs / 8) xs)) ∙ go o
    where
      go : (ratable e.codelist ≡ false) ⊎ (length xs % 8 ≡ 0) → fleet_of e (records xs) ≡ fleet_of_numbers e xs
      go (inl r) = without-numbers r
      go (inr z) = sym (same-page z)
