-- What is promised of the program `fleet`. Assumes nothing.
use Prim.Native.Nat.{ℕ, suc, zero, ◌+◌, ◌≤◌, ◌<◌}
use mathlib.Core.Bool.{Bool, true, false, cond}
use mathlib.Core.List.{List, [], ◌∷◌, ◌++◌}
use mathlib.Core.Option.{Option, none, some}
use mathlib.Core.Path.{◌≡◌, refl, sym, ap, ◌∙◌}
use native.Mathlib.Decide.{dec_le}
use native.Mathlib.Omega.{arith}
use lib.Dec.{leb, ltb}
use lib.IntN.{ℤ, pos, negsuc}
use lib.ListN.{length, take, length-append}
use lib.Seq.{take_all, take-take, length-take-le}
use borrow.Author.Tests.{lt-leb}
use Rattle.codelist.specs.declared.Numeral.{Numeral}
use Rattle.codelist.specs.Load.{value_of, load_of}
use Rattle.codelist.specs.Read.{Read, good, bad, field}
use Rattle.codelist.proofs.Lengths.{decimal-length}
use Rattle.codelist.proofs.Ratable.{well-formed-ratable}
use Rattle.engine.specs.declared.Engine.{Engine}
use Rattle.engine.specs.InFull.{Outcome}
use Rattle.engine.specs.InFull.{Accepted, Refused}
use Rattle.engine.specs.declared.Refusal.{Refusal}
use Rattle.engine.specs.Engine.{empty_engine, loaded_of}
use Rattle.engine.proofs.Demands.{demands}
use Rattle.writer.specs.Texts.{whole_text}
use Rattle.writer.proofs.Lengths.{refused-length}
use Rattle.text.specs.Input.{sheet_length, sheet_of, after_line}
use Rattle.text.specs.Output as text
use Rattle.text.specs.Answer.{written, unless_refused}
use Rattle.text.proofs.Lengths.{unless-length, written-whole}
use Rattle.text.proofs.Splitting.{sheet_length-≤}
use Rattle.boats.specs.InFull as boats
use Rattle.boats.specs.declared.Refusal.TheVariants as boats-refusal
use Rattle.boats.specs.declared.Report.{Report}
use Rattle.boats.specs.Fleet as Fleet
use Rattle.boats.specs.Fleet.{fleet_of, reported}
use Rattle.boats.specs.Report.{report_of}
use Rattle.boats.specs.Promises.{Eights}
use Rattle.boats.proofs.Promises.{report-of}
use Rattle.fleet_text.specs.Input as Input
use Rattle.fleet_text.specs.Input.{byte_after, numbers, on_numeral, boat_lines, on_boat, sheet_in, boats_in}
use Rattle.fleet_text.specs.Output.{count_lines, sum_lines, report_text, refusal_text, outcome_text, counted_text}
use Rattle.fleet_text.specs.Answer.{page_text, loading_text, answer_of}
use Rattle.fleet_text.specs.Promises.{loads, engine_of, Printed, FleetPrints}
use Rattle.fleet_text.proofs.Flat.{eights-last}
use Rattle.fleet_text.proofs.Answering.{too_long}
use Rattle.fleet_text.proofs.Cut.{found-cut, late-cut}

-- ---- the boats that were read: eight numbers each, and few enough
eight-read : (k : ℕ) (xs : List ℤ) (s : List ℕ) (b : List ℤ) (t : List ℕ) → numbers k xs s ≡ good b t → length b ≡ length xs + k
unfolding numbers
eight-read zero xs s b t e = let p : xs ≡ b = cc e in omega (arith, ap length p)
eight-read (suc k) xs s b t e = go (field (byte_after k) s) (λ x u h. eight-read k (xs ++ (x ∷ [])) u b t h) e
  where
    go : (r : Read Numeral) → ((x : ℤ) (u : List ℕ) → numbers k (xs ++ (x ∷ [])) u ≡ good b t → length b ≡ length (xs ++ (x ∷ [])) + k)
        → on_numeral r (λ x u. numbers k (xs ++ (x ∷ [])) u) ≡ good b t → length b ≡ length xs + suc k
    go (good w u) f h = omega (arith, f (value_of w) u h, length-append xs (value_of w ∷ []))
    go bad f h = absurd (let z : ◌≡◌ {A = ℕ} 0 1 = cc h in omega arith)

record Few (k : ℕ) (cs bs : List (List ℤ)) : Type 0 where
  eights : Eights cs → Eights bs
  few : length bs ≤ length cs + k

done : (k : ℕ) (cs bs : List (List ℤ)) → some cs ≡ some bs → Few k cs bs
done k cs bs e = let p : cs ≡ bs = cc e in record { eights = λ h. rw (← p) h; few = omega (arith, ap length p) }

few-read : (k : ℕ) (cs : List (List ℤ)) (s : List ℕ) (bs : List (List ℤ)) → boat_lines k cs s ≡ some bs → Few k cs bs
unfolding boat_lines
few-read zero cs [] bs e = done zero cs bs e
few-read zero cs (c ∷ s) bs e = absurd (let z : ◌≡◌ {A = ℕ} 0 1 = cc e in omega arith)
few-read (suc k) cs [] bs e = done (suc k) cs bs e
few-read (suc k) cs (c ∷ s) bs e = go (numbers 8 [] (c ∷ s)) (eight-read 8 [] (c ∷ s)) (λ b t h. few-read k (cs ++ (b ∷ [])) t bs h) e
  where
    go : (r : Read (List ℤ)) → ((b : List ℤ) (t : List ℕ) → r ≡ good b t → length b ≡ 8)
        → ((b : List ℤ) (t : List ℕ) → boat_lines k (cs ++ (b ∷ [])) t ≡ some bs → Few k (cs ++ (b ∷ [])) bs)
        → on_boat r (λ b t. boat_lines k (cs ++ (b ∷ [])) t) ≡ some bs → Few (suc k) cs bs
    go (good b t) n f h =
        let g = f b t h in
        record { eights = λ x. g.eights (eights-last cs b x (n b t refl)); few = omega (arith, g.few, length-append cs (b ∷ [])) }
    go bad n f h = absurd (let z : ◌≡◌ {A = ℕ} 0 1 = cc h in omega arith)

few-boats : (s : List ℕ) (bs : List (List ℤ)) → boats_in s ≡ some bs → Few 1000 [] bs
unfolding boats_in
few-boats s bs e = go (leb (length s) 102400) (ltb (sheet_length Input.boats true s) (length s)) e
  where
    go : (p q : Bool) → cond p (cond q (boat_lines 1000 [] (after_line Input.boats s)) none) none ≡ some bs → Few 1000 [] bs
    go true true h = few-read 1000 [] (after_line Input.boats s) bs h
    go true false h = absurd (let z : ◌≡◌ {A = ℕ} 0 1 = cc h in omega arith)
    go false q h = absurd (let z : ◌≡◌ {A = ℕ} 0 1 = cc h in omega arith)

-- ---- the outputs
module _ (s : List ℕ) where
  refused-first : (r : Refusal) → loads s ≡ Refused r → answer_of s ≡ text.refusal_text r
  unfolding answer_of
  refused-first r h = ap (λ (o : Outcome). unless_refused o (page_text (engine_of s) (boats_in s))) h

  accepted-then : loads s ≡ Accepted → answer_of s ≡ page_text (engine_of s) (boats_in s)
  unfolding answer_of
  accepted-then h = ap (λ (o : Outcome). unless_refused o (page_text (engine_of s) (boats_in s))) h

  fourteen : loads s ≡ Accepted → boats_in s ≡ none → answer_of s ≡ refusal_text boats-refusal.Boats
  fourteen h e = accepted-then h ∙ ap (page_text (engine_of s)) e

  page-printed : (bs : List (List ℤ)) → loads s ≡ Accepted → boats_in s ≡ some bs → Printed s bs
  page-printed bs h e =
      let f = few-boats s bs e in
      let r = well-formed-ratable (demands.loaded-written empty_engine (sheet_in s) h).0 in
      let p : fleet_of (engine_of s) bs ≡ reported (report_of (engine_of s) bs) = report-of (engine_of s) r bs (λ g. omega (arith, f.few, g)) in
      record {
        eights = f.eights tt;
        few = f.few;
        text = accepted-then h ∙ ap (page_text (engine_of s)) e ∙ ap (counted_text (length bs)) p;
      }

-- ---- no output has more than 1,024 bytes, so that nothing is cut off
signed-length : (x : ℤ) → length (whole_text x) ≤ 21
signed-length (pos m) = omega (arith, decimal-length 19 m)
signed-length (negsuc m) = omega (arith, decimal-length 19 (suc m))

report-length : (k : ℕ) (r : Report) → length (report_text k r) ≤ 1024
unfolding report_text count_lines sum_lines
report-length k r =
    simp length-append
    (omega (
      arith,
      decimal-length 19 k,
      decimal-length 19 r.accepted,
      decimal-length 19 r.range,
      decimal-length 19 r.divisor,
      decimal-length 19 r.limit,
      signed-length r.low,
      signed-length r.high,
      decimal-length 19 r.greatest,
    ))

counted-length : (k : ℕ) (o : boats.Outcome) (r : Report) → length (outcome_text k o r) ≤ 1024
unfolding refusal_text
counted-length k boats.Reported r = report-length k r
counted-length k (boats.Refused why) r = omega (arith, refused-length (Fleet.number_of why) (Fleet.place_of why))

page-length : (e : Engine) (bs : Option (List (List ℤ))) → length (page_text e bs) ≤ 1024
unfolding refusal_text
page-length e (some bs) = counted-length (length bs) (fleet_of e bs).outcome (fleet_of e bs).report
page-length e none = omega (arith, refused-length 14 0)

answer-whole : (s : List ℕ) → take (written (answer_of s)).len (written (answer_of s)).bytes ≡ answer_of s
unfolding answer_of
answer-whole s =
    let l = loaded_of empty_engine (sheet_in s) in
    written-whole (loading_text l (boats_in s)) (unless-length l.outcome (page_text l.engine (boats_in s)) (λ _. page-length l.engine (boats_in s)))

-- ---- what follows the first 102,401 bytes
module _ (s : List ℕ) where
  abbrev start : List ℕ
  start = take 102401 s

  abbrev p : ℕ
  p = sheet_length Input.boats true s

  -- the sheets are the same, or both are too long
  same_load : 102401 < length s → load_of (sheet_in start) ≡ load_of (sheet_in s)
  unfolding sheet_of load_of
  same_load h = go (dec_le p 4096)
    where
      go : Dec (p ≤ 4096) → load_of (take (sheet_length Input.boats true start) start) ≡ load_of (take p s)
      go (yes l) =
          rw (found-cut Input.boats true s 102401 (omega (arith, l)), take-take p 102401 s (omega (arith, l)))
      go (no l) =
          let a = late-cut Input.boats true s 4097 102401 (omega arith) (omega (arith, l)) in
          let n : length (take p s) ≡ p = length-take-le p s (sheet_length-≤ Input.boats true s) in
          let m : length (take (sheet_length Input.boats true start) start) ≡ sheet_length Input.boats true start = length-take-le _ start (sheet_length-≤ Input.boats true start) in
          rw (lt-leb (length (take p s)) 4096 (omega (arith, n, l)), lt-leb (length (take (sheet_length Input.boats true start) start)) 4096 (omega (arith, m, a)))

  cut-long : 102401 < length s → answer_of start ≡ answer_of s
  unfolding answer_of loaded_of
  cut-long h =
      let n : length start ≡ 102401 = length-take-le 102401 s (omega (arith, h)) in
      rw (same_load h, sym (too_long start (omega (arith, n))), sym (too_long s (omega (arith, h))))

  cut : answer_of start ≡ answer_of s
  cut = go (dec_le (length s) 102401)
    where
      go : Dec (length s ≤ 102401) → answer_of start ≡ answer_of s
      go (yes h) = ap answer_of (take_all 102401 s h)
      go (no h) = cut-long (omega (arith, h))

pub fleet-prints : FleetPrints
unfolding refusal_text
fleet-prints = record { refused = refused-first; no-boats = fourteen; reported = page-printed; whole = answer-whole; reads-enough = cut }
