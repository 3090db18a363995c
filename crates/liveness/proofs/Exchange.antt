-- Swapped references: the same lines are used, so the tidied codelists differ in swapped references alone, and so do the texts: `exchange-tidy`.
-- Assumes nothing.
use Prim.Native.Nat.{ℕ, suc}
use mathlib.Core.Bool.{Bool, true, false, or_comm}
use mathlib.Core.List.{List, ◌∷◌}
use mathlib.Core.Path.{◌≡◌, refl, sym, ap, ◌∙◌}
use lib.Dec.{eqb}
use lib.ListN.{length, take, drop}
use lib.Seq.{drop_at}
use Rattle.codelist.specs.declared.Codelist.{Codelist}
use Rattle.codelist.specs.declared.Entry.{Entry}
use Rattle.codelist.specs.InFull.{Loaded}
use Rattle.codelist.specs.declared.Op.{Op}
use Rattle.codelist.specs.InFull as loading
use Rattle.codelist.specs.Load.{load_of}
use Rattle.codelist.specs.Write.{text_of}
use Rattle.codelist.specs.Exchange as exchange
use Rattle.codelist.specs.Exchange.{OneByOne, none, more, ExchangedOp, add, mul, ExchangedEntry, Exchanged, ExchangedText, left}
use Rattle.codelist.proofs.Accepted.{accepted-well-formed}
use Rattle.codelist.proofs.Exchange.{codelist-alike, same_length, exchange-load, exchange-write}
use Rattle.rules.proofs.Exchange.{operations-exchanged}
use Rattle.liveness.specs.InFull.{Outcome, Written, Refused}
use Rattle.liveness.specs.Used.{refers_to, used_by, used}
use Rattle.liveness.specs.Tidied.{kept, position, renumbered, tidy_ops, tidied}
use Rattle.liveness.specs.Tidy.{after_load, tidy_of, printed, buffer_of, answer_of}
use Rattle.liveness.specs.Exchange.{ExchangeTidy}
use Rattle.liveness.proofs.Operations.{tidy-none, tidy-kept, tidy-dropped}
use Rattle.liveness.proofs.Tidied.{tidied-fine}
use Rattle.liveness.proofs.Calls.{written-exactly, leaves, was, was-text}

-- ---- which lines are used
refers-alike : {o u : Op} → ExchangedOp o u → (i : ℕ) → refers_to o i ≡ refers_to u i
refers-alike (exchange.kept o) i = refl
refers-alike (add j k) i = or_comm (eqb i j) (eqb i k)
refers-alike (mul j k) i = or_comm (eqb i j) (eqb i k)

used-alike : (e : ℕ) {xs ys : List Entry} → OneByOne ExchangedEntry xs ys → (i : ℕ) → used_by e xs i ≡ used_by e ys i
unfolding used_by
used-alike e none i = refl
used-alike e (more h hs) i = rw (used-alike (suc e) hs i, used-alike (suc e) hs (suc e), refers-alike h i)

-- ---- the operations that are kept, renumbered alike
op-moved : (f : ℕ → ℕ) {o u : Op} → ExchangedOp o u → ExchangedOp (renumbered f o) (renumbered f u)
op-moved f (exchange.kept o) = exchange.kept (renumbered f o)
op-moved f (add j k) = add (f j) (f k)
op-moved f (mul j k) = mul (f j) (f k)

tidy-alike : (k : ℕ → Bool) (e : ℕ) {xs ys : List Entry} → OneByOne ExchangedEntry xs ys
    → OneByOne ExchangedEntry (tidy_ops k e xs) (tidy_ops k e ys)
tidy-alike k e none = rw (tidy-none k e) none
tidy-alike k e (more {x} {y} {xs} {ys} h hs) = go (k (suc e)) refl (tidy-alike k (suc e) hs)
  where
    go : (b : Bool) → k (suc e) ≡ b → OneByOne ExchangedEntry (tidy_ops k (suc e) xs) (tidy_ops k (suc e) ys)
        → OneByOne ExchangedEntry (tidy_ops k e (x ∷ xs)) (tidy_ops k e (y ∷ ys))
    go true g l = rw (tidy-kept k e x xs g, tidy-kept k e y ys g) (more (op-moved (position k) h) l)
    go false g l = rw (tidy-dropped k e x xs g, tidy-dropped k e y ys g) l

module _ {c d : Codelist} (h : Exchanged c d) where
  kept-alike : (i : ℕ) → kept c i ≡ kept d i
  unfolding kept used
  kept-alike i = rw (h.factors, used-alike d.factors (operations-exchanged h) i)

  -- SO THE TIDIED CODELISTS DIFFER IN THE SWAPS ALONE
  tidied-alike : Exchanged (tidied c) (tidied d)
  unfolding tidied
  tidied-alike =
      let k : kept c ≡ kept d = λ j i. kept-alike i j in
      rw (k, h.year, h.factors) (codelist-alike d.year d.factors (tidy-alike (kept d) d.factors (operations-exchanged h)))

-- ---- the text that is written for the bytes s
abbrev tidy_text : List ℕ → List ℕ
tidy_text s = text_of (tidied (load_of s).codelist)

module _ (s t : List ℕ) (h : ExchangedText s t) where
  texts-alike : (load_of s).outcome ≡ loading.Accepted → ExchangedText (tidy_text s) (tidy_text t)
  texts-alike e =
      exchange-write (tidied (load_of s).codelist) (tidied (load_of t).codelist) (tidied-fine (load_of s).codelist (accepted-well-formed s e))
      (tidied-alike (exchange-load s t h).codelist)

  answer-alike : (k : ℕ) → tidy_of s k ≡ tidy_of t k
  unfolding tidy_of
  answer-alike k = rw (← (exchange-load s t h).outcome) (go (load_of s).outcome refl)
    where
      go : (o : loading.Outcome) → (load_of s).outcome ≡ o → after_load o (load_of s).codelist k ≡ after_load o (load_of t).codelist k
      go loading.Accepted e = rw (same_length (texts-alike e))
      go (loading.Refused r) e = refl

  -- where the call writes, the sheet was accepted
  wrote-alike : (k n : ℕ) → tidy_of s k ≡ Written n → ExchangedText (tidy_text s) (tidy_text t)
  wrote-alike k n e = texts-alike (ap (λ (x : Loaded). x.outcome) ((written-exactly s k n).0 e).loaded)

  printed-alike : ExchangedText (answer_of s) (answer_of t)
  unfolding answer_of
  printed-alike = rw (← answer-alike 4096) (go (tidy_of s 4096) refl)
    where
      go : (o : Outcome) → tidy_of s 4096 ≡ o → ExchangedText (printed o (tidy_text s)) (printed o (tidy_text t))
      go (Written n) e = wrote-alike 4096 n e
      go (Refused r) e = left _

-- ---- the buffer: the text, and what it held past that
module _ (s b : List ℕ) (n : ℕ) (e : tidy_of s (length b) ≡ Written n) where
  front : take n (buffer_of s b) ≡ tidy_text s
  front = was-text s b n e ∙ ap (λ (x : Loaded). text_of (tidied x.codelist)) (sym (was s b n e).loaded)

  past : drop n (buffer_of s b) ≡ drop n b
  past =
      let w = was s b n e in
      ap (drop n) (leaves s w.codelist w.loaded b n e) ∙ drop_at (text_of (tidied w.codelist)) (drop n b) n w.long

-- TIDYING SEES NO SWAP
pub exchange-tidy : ExchangeTidy
exchange-tidy = record {
  answer = λ s t k h. answer-alike s t h k;
  written = λ s t b n h e.
      let f = sym (answer-alike s t h (length b)) ∙ e in
      (rw (front s b n e, front t b n f) (wrote-alike s t h (length b) n e), past s b n e ∙ sym (past t b n f));
  printed = printed-alike;
}
