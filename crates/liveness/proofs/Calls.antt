-- The call: what it comes to, what it says where it wrote, and what a second one gives: `again`. Assumes nothing.
use Prim.Native.Nat.{ℕ, ◌≤◌, ◌<◌}
use mathlib.Core.Bool.{Bool, true, false, cond}
use mathlib.Core.List.{List, ◌++◌}
use mathlib.Core.Logic.{◌↔◌}
use mathlib.Core.Option.{some}
use mathlib.Core.Path.{◌≡◌, refl, sym, ap, subst, ◌∙◌}
use native.Mathlib.Omega.{arith}
use lib.Dec.{leb}
use lib.ListN.{length, take, drop}
use lib.Seq.{take_at}
use borrow.Author.Tests.{le-leb, leb-true, leb-false}
use Rattle.codelist.specs.declared.Codelist.{Codelist}
use Rattle.codelist.specs.InFull as loading
use Rattle.codelist.specs.InFull.{Loaded}
use Rattle.codelist.specs.declared.Refusal as load
use Rattle.codelist.specs.Codelist.{WellFormed}
use Rattle.codelist.specs.Load.{load_of, accepted}
use Rattle.codelist.specs.declared.Year.TheVariants.{Y2016}
use Rattle.codelist.specs.Text.{YearField, absent, year_of}
use Rattle.codelist.specs.Write.{year2016, text_with, text_of}
use Rattle.codelist.proofs.Accepted.{accepted-exactly}
use Rattle.codelist.proofs.Years.{own-text}
use Rattle.liveness.specs.InFull.{Outcome, Written, Refused}
use Rattle.liveness.specs.declared.Refusal.TheVariants.{Load, Short}
use Rattle.liveness.specs.Tidied.{tidied}
use Rattle.liveness.specs.Tidy.{fitted, after_load, tidy_of, buffer_after, buffer_of}
use Rattle.liveness.specs.Refusals.{Wrote}
use Rattle.liveness.proofs.Tidied.{tidied-fine}
use Rattle.liveness.proofs.Again.{idempotent}

pub loads : (c : Codelist) → WellFormed c → load_of (text_of (tidied c)) ≡ accepted (tidied c)
loads c w = (accepted-exactly.where-written (text_of (tidied c)) (tidied c)).1 (tidied-fine c w, own-text (tidied c))

-- ---- what a call comes to
pub data Answer (s : List ℕ) (k : ℕ) : Outcome → Type 0 where
  written : (c : Codelist) → load_of s ≡ accepted c → length (text_of (tidied c)) ≤ k → Answer s k (Written (length (text_of (tidied c))))
  short : (c : Codelist) → load_of s ≡ accepted c → k < length (text_of (tidied c)) → Answer s k (Refused Short)
  not-loaded : (r : load.Refusal) → (load_of s).outcome ≡ loading.Refused r → Answer s k (Refused (Load r))

pub answer : (s : List ℕ) (k : ℕ) → Answer s k (tidy_of s k)
unfolding tidy_of
answer s k = go (load_of s).outcome refl
  where
    fits : (c : Codelist) (b : Bool) → load_of s ≡ accepted c → leb (length (text_of (tidied c))) k ≡ b
        → Answer s k (cond b (Written (length (text_of (tidied c)))) (Refused Short))
    fits c true l e = written c l (leb-true (length (text_of (tidied c))) k e)
    fits c false l e = short c l (leb-false (length (text_of (tidied c))) k e)

    go : (o : loading.Outcome) → (load_of s).outcome ≡ o → Answer s k (after_load o (load_of s).codelist k)
    go loading.Accepted e =
        let c = (load_of s).codelist in
        fits c (leb (length (text_of (tidied c))) k) (ap (λ (o : loading.Outcome). record { outcome = o; codelist = c }) e) refl
    go (loading.Refused r) e = not-loaded r e

-- ---- where it wrote
wrote : (s : List ℕ) (k n : ℕ) → tidy_of s k ≡ Written n → Wrote s k n
wrote s k n h = go (tidy_of s k) (answer s k) h
  where
    go : (o : Outcome) → Answer s k o → o ≡ Written n → Wrote s k n
    go o (written c l f) h = let m : length (text_of (tidied c)) ≡ n = cc in record { codelist = c; loaded = l; long = m; room = omega arith }
    go o (short c l f) h = let z : ◌≡◌ {A = ℕ} 0 1 = cc in absurd (omega arith)
    go o (not-loaded r e) h = let z : ◌≡◌ {A = ℕ} 0 1 = cc in absurd (omega arith)

-- ---- where it writes
module _ (s : List ℕ) (c : Codelist) (l : load_of s ≡ accepted c) where
  pub writes : (k : ℕ) → length (text_of (tidied c)) ≤ k → tidy_of s k ≡ Written (length (text_of (tidied c)))
  unfolding tidy_of
  writes k h = rw (l, le-leb (length (text_of (tidied c))) k h)

  pub leaves : (b : List ℕ) (n : ℕ) → tidy_of s (length b) ≡ Written n → buffer_of s b ≡ text_of (tidied c) ++ drop n b
  unfolding buffer_of
  leaves b n h = rw (h, l)

pub written-exactly : (s : List ℕ) (k n : ℕ) → (tidy_of s k ≡ Written n) ↔ Wrote s k n
written-exactly s k n = (
  wrote s k n,
  λ w. writes s w.codelist w.loaded k (omega (arith, w.long, w.room)) ∙ ap Written w.long,
)

-- ---- what it wrote
module _ (s b : List ℕ) (n : ℕ) (h : tidy_of s (length b) ≡ Written n) where
  pub was : Wrote s (length b) n
  was = wrote s (length b) n h

  pub was-fine : WellFormed was.codelist
  was-fine = ((accepted-exactly.where-written s was.codelist).0 was.loaded).0

  pub was-text : take n (buffer_of s b) ≡ text_of (tidied was.codelist)
  was-text =
      let u = text_of (tidied was.codelist) in
      ap (take n) (leaves s was.codelist was.loaded b n h) ∙ take_at u (drop n b) n was.long

  -- WHAT WAS WRITTEN IS WRITTEN AGAIN
  pub again : (d : List ℕ) → n ≤ length d
      → let t = take n (buffer_of s b) in
      (tidy_of t (length d) ≡ Written n) × (buffer_of t d ≡ t ++ drop n d)
  again d room =
      let c = was.codelist in
      let u = text_of (tidied c) in
      let same = ap text_of (idempotent c was-fine) in
      let l = loads c was-fine in
      let out = writes u (tidied c) l (length d) (omega (arith, ap length same, was.long))
      ∙ ap (λ (v : List ℕ). Written (length v)) same ∙ ap Written was.long in
      let left = leaves u (tidied c) l d n out ∙ ap (λ (v : List ℕ). v ++ drop n d) same in
      subst (λ (t : List ℕ). (tidy_of t (length d) ≡ Written n) × (buffer_of t d ≡ t ++ drop n d)) (sym was-text) (out, left)

-- ---- a sheet that names 2016, and the one that names no year: they load the same
same-call : (s t : List ℕ) → load_of s ≡ load_of t → (b : List ℕ) → (tidy_of s (length b) ≡ tidy_of t (length b)) × (buffer_of s b ≡ buffer_of t b)
unfolding tidy_of buffer_of
same-call s t e b = (rw e, rw e)

pub year-unnamed : (c : Codelist) → WellFormed c → c.year ≡ Y2016 → (b : List ℕ)
    → (tidy_of (text_with year2016 c) (length b) ≡ tidy_of (text_with absent c) (length b)) × (buffer_of (text_with year2016 c) b ≡ buffer_of (text_with absent c) b)
unfolding year_of
year-unnamed c w h b = same-call (text_with year2016 c) (text_with absent c) (load_is year2016 (ap some (sym h)) ∙ sym (load_is absent (ap some (sym h)))) b
  where
    load_is : (f : YearField) → year_of f ≡ some c.year → load_of (text_with f c) ≡ accepted c
    load_is f e = (accepted-exactly.where-written (text_with f c) c).1 (w, record { field = f; names = e; text = refl })

-- ---- by what loading gave
module _ (s : List ℕ) (x : Loaded) (e : x ≡ load_of s) where
  -- an accepted text comes to its tidied text, where that fits
  pub after-accepted : (k : ℕ) → x.outcome ≡ loading.Accepted → fitted (text_of (tidied x.codelist)) k ≡ tidy_of s k
  unfolding tidy_of
  after-accepted k h = rw (← e, h)

  -- a refused one comes to that refusal
  pub after-refused : (k : ℕ) (r : load.Refusal) → x.outcome ≡ loading.Refused r → Refused (Load r) ≡ tidy_of s k
  unfolding tidy_of
  after-refused k r h = rw (← e, h)

  -- and the buffer after it
  pub buffer-is : (b : List ℕ) (o : Outcome) → o ≡ tidy_of s (length b) → buffer_after o (text_of (tidied x.codelist)) b ≡ buffer_of s b
  unfolding buffer_of
  buffer-is b o h = rw (← e, ← h)

-- ---- what is loaded can be tidied
pub loaded_fine : (s : List ℕ) (c : Codelist) → accepted c ≡ load_of s → WellFormed c
loaded_fine s c e = ((accepted-exactly.where-written s c).0 (sym e)).0
