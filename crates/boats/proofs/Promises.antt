-- What is promised of the fleet page. Assumes nothing.
use mathlib.Core.Path.{◌≡◌, refl, sym, ap, ap₂, ◌∙◌}
use mathlib.Core.Bool.{Bool, true, false, ◌&&◌}
use mathlib.Core.List.{List, [], ◌∷◌, map}
use mathlib.Core.Logic.{◌↔◌}
use Prim.Native.Nat.{ℕ, zero, suc, ◌+◌, ◌%◌, ◌≤◌, ◌<◌}
use native.Mathlib.Omega.{arith}
use borrow.Author.Tests.{leb-true, le-leb}
use lib.Dec.{leb, eqb}
use lib.IntN.{ℤ, nat_abs}
use lib.ListN.{length, get_or, take, length-map, get_or-map}
use Rattle.codelist.specs.Codelist.{Ratable, ratable}
use Rattle.codelist.proofs.Ratable.{decides}
use Rattle.engine.specs.declared.Engine.{Engine}
use Rattle.engine.specs.InFull.{Rating}
use Rattle.engine.specs.Engine.{rated_of}
use Rattle.boats.specs.declared.Report.{Report}
use Rattle.boats.specs.Boats.{doubled, records, boat_rating, ratings_of}
use Rattle.boats.specs.Report.{count, is_accepted, figures_of, report_of}
use Rattle.boats.specs.Fleet.{no_report, reported, fleet_of, fleet_of_numbers}
use Rattle.boats.specs.Promises.{Eights, First, FleetFigures}
use Rattle.boats.specs.Walk.{start, one}
use Rattle.boats.proofs.Tally.{tallied, count-cons}
use Rattle.boats.proofs.Leading.{clash, Best, best, position-is}
use Rattle.boats.proofs.Walked.{all-eight, same-page}
use Rattle.boats.proofs.Counts.{counted, low_small, high_small, are-joined}
use Rattle.boats.proofs.Outcomes.{paged, listed-number, paged-zero, page-listed, page-otherwise, numbers-listed, numbers-otherwise}
use Rattle.boats.proofs.Income.{premium-is, income}

-- ---- the report of a page is that of its boats, or has no figures
paged-report : (P : Report → Type 0) (r q : Bool) (x : Report) → P no_report → ((r ≡ true) × (q ≡ true) → P x) → P (paged r q x).report
paged-report P false q x n f = n
paged-report P true false x n f = n
paged-report P true true x n f = f (refl, refl)

-- ---- the boat with the greatest high end
none-counted : (d : Rating) (rs : List Rating) → count is_accepted rs ≡ 0 → (j : ℕ) → j < length rs → is_accepted (get_or rs j d) ≡ false
none-counted d [] e j h = absurd (omega (arith, h))
none-counted d (r ∷ rs) e zero h = go (is_accepted r) refl
  where
    go : (b : Bool) → is_accepted r ≡ b → b ≡ false
    go true p = absurd (let c : one (is_accepted r) ≡ 1 = ap one p in omega (arith, c, e, count-cons is_accepted r rs))
    go false p = refl
none-counted d (r ∷ rs) e (suc j) h = none-counted d rs (omega (arith, e, count-cons is_accepted r rs)) j (omega (arith, h))

counted_none : (d : Rating) (rs : List Rating) → ((j : ℕ) → j < length rs → is_accepted (get_or rs j d) ≡ false) → count is_accepted rs ≡ 0
counted_none d [] f = refl
counted_none d (r ∷ rs) f =
    let c : one (is_accepted r) ≡ 0 = ap one (f 0 (omega arith)) in
    omega (arith, c, count-cons is_accepted r rs, counted_none d rs (λ j h. f (suc j) (omega (arith, h))))

module _ (e : Engine) (bs : List (List ℤ)) where
  abbrev d : Rating
  d = boat_rating e []

  abbrev rs : List Rating
  rs = ratings_of e bs

  leading : Best d rs (length rs) (report_of e bs).greatest (tallied 0 start rs).top
  unfolding figures_of
  leading = rw (position-is d rs (tallied 0 start rs).report.greatest (tallied 0 start rs).top (best d rs)) (best d rs)

  none-greatest : ((report_of e bs).greatest ≡ 0) ↔ ((report_of e bs).accepted ≡ 0)
  unfolding figures_of
  none-greatest = (λ h. counted_none d rs (leading.none h), λ h. go (report_of e bs).greatest refl (none-counted d rs h))
    where
      go : (g : ℕ) → (report_of e bs).greatest ≡ g → ((j : ℕ) → j < length rs → is_accepted (get_or rs j d) ≡ false) → g ≡ 0
      go zero p f = refl
      go (suc i) p f = let x = (leading.some i p).0 in clash x.accepted (f i x.inside)

  first-greatest : (k : ℕ) → (report_of e bs).greatest ≡ suc k → First (λ j. boat_rating e (get_or bs j [])) (length bs) k
  first-greatest k h =
      let x = (leading.some k h).0 in
      let is : (j : ℕ) → get_or rs j d ≡ boat_rating e (get_or bs j []) = λ j. get_or-map (boat_rating e) bs j [] in
      let n : length rs ≡ length bs = length-map bs (boat_rating e) in
      record {
        inside = rw (← n) x.inside;
        accepted = rw (← (is k)) x.accepted;
        most = λ j l a. rw (← (is j), ← (is k)) (x.most j (rw n l) (rw (is j) a));
        first = λ j l a. rw (← (is j), ← (is k)) (x.first j l (rw (is j) a));
      }

-- ---- the numbers that are ignored
ratings-taken : (e : Engine) (bs : List (List ℤ)) → ratings_of e bs ≡ map (λ (t : List ℤ). rated_of e (doubled t)) (map (take e.codelist.factors) bs)
unfolding boat_rating
ratings-taken e [] = refl
ratings-taken e (b ∷ bs) = ap (λ (us : List Rating). rated_of e (doubled (take e.codelist.factors b)) ∷ us) (ratings-taken e bs)

page-of : (e : Engine) (bs : List (List ℤ)) → fleet_of e bs ≡ paged (ratable e.codelist) (leb (length bs) 1000) (report_of e bs)
unfolding fleet_of
page-of e bs = refl

taken-alone : (e : Engine) (bs cs : List (List ℤ)) → map (take e.codelist.factors) bs ≡ map (take e.codelist.factors) cs → fleet_of e bs ≡ fleet_of e cs
taken-alone e bs cs h =
    let t = take {A = ℤ} e.codelist.factors in
    let n : length bs ≡ length cs = sym (length-map bs t) ∙ ap length h ∙ length-map cs t in
    let r : ratings_of e bs ≡ ratings_of e cs = ratings-taken e bs ∙ ap (map (λ (t : List ℤ). rated_of e (doubled t))) h ∙ sym (ratings-taken e cs) in
    page-of e bs
    ∙ ap₂ (λ (m : ℕ) (us : List Rating). paged (ratable e.codelist) (leb m 1000) (figures_of us)) n r
    ∙ sym (page-of e cs)

-- ---- a page that is reported
module _ (e : Engine) (r : Ratable e.codelist) where
  pub report-of : (bs : List (List ℤ)) → ¬ (1000 < length bs) → fleet_of e bs ≡ reported (report_of e bs)
  report-of bs h = page-of e bs ∙ rw ((decides e.codelist).1 r, le-leb (length bs) 1000 (omega (arith, h)))

  all-counted : (bs : List (List ℤ)) → Eights bs → ¬ (1000 < length bs)
      → (fleet_of e bs).report.accepted + (fleet_of e bs).report.range + (fleet_of e bs).report.divisor + (fleet_of e bs).report.limit ≡ length bs
  all-counted bs t h = rw (report-of bs h) (counted e r bs t)

  empty : fleet_of e [] ≡ reported no_report
  unfolding figures_of
  empty = report-of [] (λ h. omega (arith, h))

pub fleet-figures : FleetFigures
unfolding fleet_of fleet_of_numbers
fleet-figures = record {
  counts = λ e bs t h.
      let s = (page-otherwise e.codelist bs (report_of e bs)).0 h in
      all-counted e s.0 bs t s.1;
  eights = all-eight;
  empty-list = empty;
  refused-listed = λ e bs r. page-listed e.codelist bs (report_of e bs) r;
  reported-else = λ e bs. page-otherwise e.codelist bs (report_of e bs);
  numbers-refused-listed = λ e xs r. numbers-listed e.codelist xs (report_of e (records xs)) r;
  numbers-reported-else = λ e xs. numbers-otherwise e.codelist xs (report_of e (records xs));
  numbers = listed-number;
  refused-zero = λ e bs r. paged-zero (ratable e.codelist) (leb (length bs) 1000) (report_of e bs) r;
  numbers-refused-zero = λ e xs r. paged-zero (ratable e.codelist) (leb (length xs) 8000 && eqb (length xs % 8) 0) (report_of e (records xs)) r;
  greatest-none = λ e bs.
      paged-report (λ (r : Report). (r.greatest ≡ 0) ↔ (r.accepted ≡ 0)) (ratable e.codelist) (leb (length bs) 1000) (report_of e bs)
      (λ p. refl, λ p. refl) (λ p. none-greatest e bs);
  greatest-first = λ e bs k.
      paged-report (λ (r : Report). r.greatest ≡ suc k → First (λ j. boat_rating e (get_or bs j [])) (length bs) k)
      (ratable e.codelist) (leb (length bs) 1000) (report_of e bs) (λ p. absurd (omega (arith, p))) (λ p. first-greatest e bs k);
  fits = λ e bs.
      paged-report (λ (r : Report). (nat_abs r.low ≤ 2000000000000) × (nat_abs r.high ≤ 2000000000000))
      (ratable e.codelist) (leb (length bs) 1000) (report_of e bs) (omega arith, omega arith)
      (λ p. (omega (arith, low_small e bs, leb-true (length bs) 1000 p.1), omega (arith, high_small e bs, leb-true (length bs) 1000 p.1)));
  joined = λ e bs cs. are-joined e cs bs;
  ignored = taken-alone;
  same-list = same-page;
  premium = premium-is;
  total = income;
}
