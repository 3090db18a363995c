-- Swapped references: loading has the same outcome and leaves codelists that differ in swapped references alone; what is written for two such
-- codelists are texts that do. Assumes nothing.
use Prim.Native.Nat.{ℕ, suc, zero, ◌+◌, ◌-◌, ◌≤◌}
use mathlib.Core.Bool.{Bool, true, false, cond}
use mathlib.Core.List.{List, [], ◌∷◌, ◌++◌, append_assoc}
use mathlib.Core.Option.{Option, some, none}
use mathlib.Core.Path.{◌≡◌, refl, subst}
use native.Mathlib.Omega.{arith}
use lib.Dec.{leb}
use lib.ListN.{length, replicate, length-append}
use Rattle.std.specs.declared.result.Result.{Result}
use Rattle.codelist.specs.declared.Codelist.{Codelist}
use Rattle.codelist.specs.declared.Entry.{Entry}
use Rattle.codelist.specs.InFull.{Loaded}
use Rattle.codelist.specs.declared.Numeral.{Numeral}
use Rattle.codelist.specs.declared.Op.{Op}
use Rattle.codelist.specs.declared.Refusal.{Refusal}
use Rattle.codelist.specs.declared.Refusal.TheVariants.{TooLong, FactorCount}
use Rattle.codelist.specs.declared.Year.{Year}
use Rattle.codelist.specs.Codelist.{blank, WellFormedOps}
use Rattle.codelist.specs.Text.{TextLine, YearField, HasNumerals, line_text, year_of}
use Rattle.codelist.specs.Write.{plain, text_line_of, ops_text, text_with, field_of, text_of}
use Rattle.codelist.specs.Conditions.{is_between}
use Rattle.codelist.specs.Read.{Read, good}
use Rattle.codelist.specs.Load.{refused, codelist_of, ended, on_checked, on_line, at_end, operation_lines, on_year, on_first, load_of}
use Rattle.codelist.specs.Exchange.{OneByOne, none, more, ExchangedOp, kept, add, mul, ExchangedEntry, Exchanged, ExchangedLine, add_line}
use Rattle.codelist.specs.Exchange.{mul_line, ExchangedText, left, whole, swapped, LoadedAlike, ExchangeLoad, ExchangeWrite}
use Rattle.codelist.proofs.Checks.{writes}
use Rattle.codelist.proofs.Ratable.{taken, well-formed-ratable}
use Rattle.codelist.proofs.OneByOne.{each_append, each_snoc, each_take, each-length}
use Rattle.codelist.proofs.WholeLines.{Whole, line-whole, first-whole}
use Rattle.codelist.proofs.ExchangedLines.{LineAlike, CheckedAlike, fault, fine, checked-alike, ReadAlike, neither, each, lines-read, first_read}

-- ---- loading
same-ops : (xs : List Entry) → OneByOne ExchangedEntry xs xs
same-ops [] = none
same-ops (x ∷ xs) = more (kept x.op) (same-ops xs)

pub same-codelist : (c : Codelist) → Exchanged c c
same-codelist c = record { factors = refl; count = refl; year = refl; ops = same-ops c.ops }

same-loaded : (x : Loaded) → LoadedAlike x x
same-loaded x = record { outcome = refl; codelist = same-codelist x.codelist }

pub codelist-alike : (y : Year) (n : ℕ) {xs ys : List Entry} → OneByOne ExchangedEntry xs ys → Exchanged (codelist_of y n xs) (codelist_of y n ys)
unfolding codelist_of
codelist-alike y n {xs} {ys} h =
    let e = each-length ExchangedEntry h in
    record {
      factors = refl;
      count = e;
      year = refl;
      ops = rw e (each_append ExchangedEntry h (same-ops (replicate (64 - length ys) blank)));
    }

ended-alike : (y : Year) (n : ℕ) {xs ys : List Entry} → OneByOne ExchangedEntry xs ys → LoadedAlike (ended y n xs) (ended y n ys)
ended-alike y n none = same-loaded _
ended-alike y n (more h hs) = record { outcome = refl; codelist = codelist-alike y n (more h hs) }

-- a text ends where the other does
end-alike : {s t : List ℕ} {w x y z : Loaded} → ExchangedText s t → LoadedAlike w x → LoadedAlike y z → LoadedAlike (at_end s w y) (at_end t x z)
end-alike (left []) a b = a
end-alike (left (c ∷ s)) a b = b
end-alike (whole [] v h) a b = b
end-alike (whole (c ∷ l) v h) a b = b
end-alike (swapped (add_line i j) n h) a b = b
end-alike (swapped (mul_line i j) n h) a b = b

checked-on : {a b : Result Op Refusal} → CheckedAlike a b → (f g : Op → Loaded) → ((o u : Op) → ExchangedOp o u → LoadedAlike (f o) (g u))
    → LoadedAlike (on_checked a f) (on_checked b g)
checked-on (fault r) f g k = same-loaded (refused r)
checked-on (fine {o} {u} h) f g k = k o u h

line_on : (p : ℕ) {a b : Read TextLine} → ReadAlike LineAlike a b → (f g : TextLine → List ℕ → Loaded)
    → ((l m : TextLine) (s t : List ℕ) → LineAlike l m → ExchangedText s t → LoadedAlike (f l s) (g m t))
    → LoadedAlike (on_line p a f) (on_line p b g)
line_on p neither f g k = same-loaded _
line_on p (each {x = l} {y = m} {s} {t} x h) f g k = k l m s t x h

lines-alike : (y : Year) (n room : ℕ) {xs ys : List Entry} {s t : List ℕ} → OneByOne ExchangedEntry xs ys → ExchangedText s t
    → LoadedAlike (operation_lines y n room xs s) (operation_lines y n room ys t)
unfolding operation_lines
lines-alike y n zero hs h = rw (each-length ExchangedEntry hs)
    (end-alike h (ended-alike y n hs) (line_on _ (lines-read h) _ _ (λ l m u v x k. same-loaded _)))
lines-alike y n (suc room) hs h = rw (each-length ExchangedEntry hs)
    (end-alike h (ended-alike y n hs) (line_on _ (lines-read h) _ _ (λ l m u v x k.
    checked-on (checked-alike _ _ x) _ _ (λ o w z. lines-alike y n room (each_snoc ExchangedEntry hs z) k))))

-- the same first line, and then such texts
first_on : {a b : Read (Numeral × YearField)} → ReadAlike ◌≡◌ a b → LoadedAlike (on_first a) (on_first b)
first_on neither = same-loaded _
first_on (each {x} {s} {t} e h) =
    subst (λ (z : Numeral × YearField). LoadedAlike (on_first (good x s)) (on_first (good z t))) e (go (is_between 1 8 x.0) (year_of x.1))
  where
    n : ℕ
    n = x.0.magnitude

    go : (b : Bool) (o : Option Year)
        → LoadedAlike (cond b (on_year o (λ y. operation_lines y n (64 - n) [] s)) (refused FactorCount))
        (cond b (on_year o (λ y. operation_lines y n (64 - n) [] t)) (refused FactorCount))
    go false o = same-loaded _
    go true none = same-loaded _
    go true (some y) = lines-alike y n (64 - n) none h

-- so no text is longer than the other
line-length : {l m : TextLine} → ExchangedLine l m → length (line_text l) ≡ length (line_text m)
line-length (add_line i j) = simp length-append (omega arith)
line-length (mul_line i j) = simp length-append (omega arith)

pub same_length : {s t : List ℕ} → ExchangedText s t → length s ≡ length t
same_length (left s) = refl
same_length (whole {s} {t} l w h) = simp length-append (omega (arith, same_length h))
same_length (swapped {l} {m} {s} {t} e n h) = simp length-append (omega (arith, line-length e, same_length h))

-- LOADING SEES NO SWAP
pub exchange-load : ExchangeLoad
unfolding load_of
exchange-load s t h = rw (same_length h) (go (leb (length t) 4096) (first_on (first_read h)))
  where
    go : (b : Bool) {x y : Loaded} → LoadedAlike x y → LoadedAlike (cond b x (refused TooLong)) (cond b y (refused TooLong))
    go true k = k
    go false k = same-loaded _

-- ---- writing
line_kept : (p : List ℕ) {s t : List ℕ} → Whole p → ExchangedText s t → ExchangedText (p ++ s) (p ++ t)
line_kept p w h = rw w.text (simp append_assoc (whole w.front w.within h))

op-written : {o u : Op} {s t : List ℕ} → HasNumerals (text_line_of o) → ExchangedOp o u → ExchangedText s t
    → ExchangedText (line_text (text_line_of o) ++ s) (line_text (text_line_of u) ++ t)
op-written n (kept o) h = line_kept _ (line-whole (text_line_of o)) h
op-written n (add i j) h = swapped (add_line (plain i) (plain j)) n h
op-written n (mul i j) h = swapped (mul_line (plain i) (plain j)) n h

ops-written : (e : ℕ) {xs ys : List Entry} → OneByOne ExchangedEntry xs ys → WellFormedOps e xs → e + length xs ≤ 64
    → ExchangedText (ops_text xs) (ops_text ys)
ops-written e none w l = left []
ops-written e (more {x} {y} h hs) (w, ws) l =
    op-written (writes 0 e (omega arith) x.op w) h (ops-written (e + 1) hs ws (omega arith))

-- THE TEXTS WRITTEN DIFFER IN THE SWAPS ALONE
pub exchange-write : ExchangeWrite
unfolding text_of text_with
exchange-write c d w h =
    rw (← h.factors, ← h.year, ← h.count)
    (line_kept _ (first-whole (plain c.factors) (field_of c.year))
    (ops-written c.factors (each_take ExchangedEntry c.count h.ops) w.each (omega (arith, taken c (well-formed-ratable w), w.few))))
