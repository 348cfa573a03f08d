-- A sequence that lent lists give: the stop at a place and what is written from it on, its domains and marks, and what it means that the writer accepts it.
-- By taking the first element off each list.
use Prim.Native.Nat.{ℕ, zero, suc, ◌+◌, ◌≤◌, ◌<◌}
use native.Mathlib.Nat.{zero-add, add-zero, add_assoc}
use native.Mathlib.Omega.{arith}
use mathlib.Core.Path.{◌≡◌, refl, sym, ap, ap₂, ◌∙◌}
use mathlib.Core.Bool.{true, false, not}
use mathlib.Core.List.{List, [], ◌∷◌, ◌++◌, map}
use mathlib.Core.Option.{Option, some}
use lib.ListN.{length, get_or, take, drop, drop_of_length-le, length-drop, length-map, take-append-drop}
use lib.Seq.{drop-cons, drop-drop, take-suc, length-take-le}
use lib.Dec.{eqb, ltb, leb}
use borrow.Author.Tests.{eqb-true, eqb-false, ltb-false, leb-false, not-false}
use Rattle.model.specs.declared.Domain.{Domain}
use Rattle.model.specs.declared.NamedStop.{NamedStop}
use Rattle.model.specs.Lists.{any, all_different, each, sum}
use Rattle.model.specs.Sequence.{Stop, stop, domain_of, domains_of}
use Rattle.model.specs.WrittenList.{pin_if, stops, written_stop, written_from, written, first_marked, whole_exrs, unfit, unwritable}
use Rattle.model.specs.Calls.{pin_mark, all_exrs}
use Rattle.model.specs.Path.{no_stop}
use Rattle.laws.specs.Stops.{stop_in, stops_of}
use Rattle.laws.proofs.Tests.{or_neither}
use Rattle.laws.proofs.Lists.{any_false}
use Rattle.laws.proofs.Ascending.{get_or_mem}
use Rattle.laws.proofs.ProfileLists.{length-map-count_from, get_or-map-count_from}

-- how many of the EXRS' bytes are those of the domains before place i
abbrev pub bytes_before : List ℕ → ℕ → ℕ
bytes_before counts i = sum (take i counts)

sum-append : (xs ys : List ℕ) → sum (xs ++ ys) ≡ sum xs + sum ys
unfolding sum
sum-append [] ys = sym (zero-add (sum ys))
sum-append (x ∷ xs) ys = ap (λ (n : ℕ). x + n) (sum-append xs ys) ∙ sym (add_assoc x (sum xs) (sum ys))

pub bytes_next : (counts : List ℕ) (i : ℕ) → i < length counts → bytes_before counts (suc i) ≡ bytes_before counts i + get_or counts i 0
unfolding sum
bytes_next counts i h =
    ap sum (take-suc counts i 0 h) ∙ sum-append (take i counts) (get_or counts i 0 ∷ []) ∙ ap (λ (n : ℕ). sum (take i counts) + n) (add-zero (get_or counts i 0))

-- what stands behind counts that are given up to place i
pub bytes_most : (counts : List ℕ) (i : ℕ) → bytes_before counts i ≤ sum counts
bytes_most counts i = omega (arith, sum-append (take i counts) (drop i counts), ap sum (take-append-drop i counts))

module _ (ds : List Domain) (indexes marks nodes counts exrs : List ℕ) where
  -- the sequence from a place on
  abbrev pub stops_from : ℕ → List Stop
  stops_from i = stops (drop i indexes) (drop i marks) (drop i nodes) (drop i counts) (drop (bytes_before counts i) exrs)

  -- the EXRS of the domain at a place
  abbrev pub exrs_at : ℕ → List ℕ
  exrs_at i = take (get_or counts i 0) (drop (bytes_before counts i) exrs)

  pub stops-whole : stops_from 0 ≡ stops indexes marks nodes counts exrs
  unfolding sum
  stops-whole = refl

  -- ---- what is written from a place on

  module _ (i : ℕ) (h : i < length indexes) (k : length marks ≡ length indexes) (l : length nodes ≡ length indexes) (m : length counts ≡ length indexes) where
    -- the stop at a place, and the others after it
    pub stops_at : stops_from i ≡ stop (get_or indexes i 0) (pin_if (get_or marks i 0) (get_or nodes i 0)) (exrs_at i) ∷ stops_from (suc i)
    unfolding stops
    stops_at =
        ap₂ (λ (x : List ℕ) (rest : List ℕ). stops x (drop i marks) (drop i nodes) rest (drop (bytes_before counts i) exrs)) (drop-cons indexes i 0 h) (drop-cons counts i 0 (omega arith))
        ∙ ap₂ (λ (x : List ℕ) (y : List ℕ). stops (get_or indexes i 0 ∷ drop (suc i) indexes) x y (get_or counts i 0 ∷ drop (suc i) counts) (drop (bytes_before counts i) exrs)) (drop-cons marks i 0 (omega arith)) (drop-cons nodes i 0 (omega arith))
        ∙ ap {B = List Stop}
        (λ (rest : List ℕ). stop (get_or indexes i 0) (pin_if (get_or marks i 0) (get_or nodes i 0)) (exrs_at i) ∷ stops (drop (suc i) indexes) (drop (suc i) marks) (drop (suc i) nodes) (drop (suc i) counts) rest)
        (drop-drop (get_or counts i 0) (bytes_before counts i) exrs ∙ ap (λ (n : ℕ). drop n exrs) (sym (bytes_next counts i (omega arith))))

    pub written_at : (before : Option ℕ) → written_from ds before (stops_from i)
        ≡ written_stop before (pin_if (get_or marks i 0) (get_or nodes i 0)) (exrs_at i) (domain_of ds (get_or indexes i 0))
        ++ written_from ds (some (domain_of ds (get_or indexes i 0)).asn) (stops_from (suc i))
    unfolding written_from
    written_at before = ap (written_from ds before) stops_at

  -- and nothing from the end on
  pub written-end : (i : ℕ) (before : Option ℕ) → length indexes ≤ i → written_from ds before (stops_from i) ≡ []
  unfolding stops written_from
  written-end i before h = rw (drop_of_length-le indexes h) refl

-- ---- the sequence has the domains, the marks, the counts and the EXRS that it was given

module _ where
  pub stops-domains : (is ms ns cs xs : List ℕ) → length ms ≡ length is → length ns ≡ length is → length cs ≡ length is → domains_of (stops is ms ns cs xs) ≡ is
  unfolding stops
  stops-domains [] ms ns cs xs p q r = refl
  stops-domains (i ∷ is) [] ns cs xs p q r = absurd (omega arith)
  stops-domains (i ∷ is) (m ∷ ms) [] cs xs p q r = absurd (omega arith)
  stops-domains (i ∷ is) (m ∷ ms) (n ∷ ns) [] xs p q r = absurd (omega arith)
  stops-domains (i ∷ is) (m ∷ ms) (n ∷ ns) (c ∷ cs) xs p q r = ap (λ (t : List ℕ). i ∷ t) (stops-domains is ms ns cs (drop c xs) (omega arith) (omega arith) (omega arith))

  pub stops-count : (is ms ns cs xs : List ℕ) → length ms ≡ length is → length ns ≡ length is → length cs ≡ length is → length (stops is ms ns cs xs) ≡ length is
  stops-count is ms ns cs xs p q r = sym (length-map (stops is ms ns cs xs) (λ (s : Stop). s.domain)) ∙ ap length (stops-domains is ms ns cs xs p q r)

  mark_of_lem : (m node : ℕ) → m ≤ 1 → pin_mark (pin_if m node) ≡ m
  mark_of_lem zero node h = refl
  mark_of_lem (suc zero) node h = refl
  mark_of_lem (suc (suc m)) node h = absurd (omega arith)

  pub stops-marks : (is ms ns cs xs : List ℕ) → length ms ≡ length is → length ns ≡ length is → length cs ≡ length is → any (λ (m : ℕ). ltb 1 m) ms ≡ false
      → map (λ (s : Stop). pin_mark s.pin) (stops is ms ns cs xs) ≡ ms
  unfolding stops
  stops-marks [] [] ns cs xs p q r a = refl
  stops-marks [] (m ∷ ms) ns cs xs p q r a = absurd (omega arith)
  stops-marks (i ∷ is) [] ns cs xs p q r a = absurd (omega arith)
  stops-marks (i ∷ is) (m ∷ ms) [] cs xs p q r a = absurd (omega arith)
  stops-marks (i ∷ is) (m ∷ ms) (n ∷ ns) [] xs p q r a = absurd (omega arith)
  stops-marks (i ∷ is) (m ∷ ms) (n ∷ ns) (c ∷ cs) xs p q r a =
      let b = or_neither (ltb 1 m) (any (λ (x : ℕ). ltb 1 x) ms) a in
      ap₂ (λ (x : ℕ) (t : List ℕ). x ∷ t) (mark_of_lem m n (ltb-false 1 m b.0)) (stops-marks is ms ns cs (drop c xs) (omega arith) (omega arith) (omega arith) b.1)

  -- where the counts come to all the bytes
  pub stops-counts : (is ms ns cs xs : List ℕ) → length ms ≡ length is → length ns ≡ length is → length cs ≡ length is → sum cs ≡ length xs
      → map (λ (s : Stop). length s.exrs) (stops is ms ns cs xs) ≡ cs
  unfolding stops sum
  stops-counts [] ms ns [] xs p q r t = refl
  stops-counts [] ms ns (c ∷ cs) xs p q r t = absurd (omega arith)
  stops-counts (i ∷ is) [] ns cs xs p q r t = absurd (omega arith)
  stops-counts (i ∷ is) (m ∷ ms) [] cs xs p q r t = absurd (omega arith)
  stops-counts (i ∷ is) (m ∷ ms) (n ∷ ns) [] xs p q r t = absurd (omega arith)
  stops-counts (i ∷ is) (m ∷ ms) (n ∷ ns) (c ∷ cs) xs p q r t =
      ap₂ (λ (x : ℕ) (u : List ℕ). x ∷ u) (length-take-le c xs (omega arith))
      (stops-counts is ms ns cs (drop c xs) (omega arith) (omega arith) (omega arith) (omega (arith, length-drop c xs)))

  pub stops-exrs : (is ms ns cs xs : List ℕ) → length ms ≡ length is → length ns ≡ length is → length cs ≡ length is → sum cs ≡ length xs
      → all_exrs (stops is ms ns cs xs) ≡ xs
  unfolding stops sum all_exrs each
  stops-exrs [] ms ns [] [] p q r t = refl
  stops-exrs [] ms ns [] (x ∷ xs) p q r t = absurd (omega arith)
  stops-exrs [] ms ns (c ∷ cs) xs p q r t = absurd (omega arith)
  stops-exrs (i ∷ is) [] ns cs xs p q r t = absurd (omega arith)
  stops-exrs (i ∷ is) (m ∷ ms) [] cs xs p q r t = absurd (omega arith)
  stops-exrs (i ∷ is) (m ∷ ms) (n ∷ ns) [] xs p q r t = absurd (omega arith)
  stops-exrs (i ∷ is) (m ∷ ms) (n ∷ ns) (c ∷ cs) xs p q r t =
      ap {B = List ℕ} (λ (l : List ℕ). take c xs ++ l) (stops-exrs is ms ns cs (drop c xs) (omega arith) (omega arith) (omega arith) (omega (arith, length-drop c xs)))
      ∙ take-append-drop c xs

-- ---- what the writer accepts

-- the tests of number 35, each answered
pub record Accepts (ds : List Domain) (indexes marks nodes counts exrs : List ℕ) : Type 0 where
  pub some_domain_lem : length indexes ≡ 0 → ⊥
  pub most : length indexes ≤ 16
  pub as_many_marks : length marks ≡ length indexes
  pub as_many_nodes : length nodes ≡ length indexes
  pub as_many_counts : length counts ≡ length indexes
  pub all_bytes : sum counts ≡ length exrs
  pub in_profile : any (λ (d : ℕ). leb (length ds) d) indexes ≡ false
  pub different : all_different indexes ≡ true
  pub marks-known : any (λ (m : ℕ). ltb 1 m) marks ≡ false
  pub unpinned : first_marked marks ≡ false
  pub unexcluded : first_marked counts ≡ false
  pub whole : any (λ (p : Stop). not (whole_exrs p.exrs)) (stops indexes marks nodes counts exrs) ≡ false
  pub short : length (written ds (stops indexes marks nodes counts exrs)) ≤ 1024

pub accepts
    : (ds : List Domain) (indexes marks nodes counts exrs : List ℕ) → unwritable ds indexes marks nodes counts exrs ≡ false
    → Accepts ds indexes marks nodes counts exrs
unfolding unwritable unfit
accepts ds indexes marks nodes counts exrs e =
    let sequence = stops indexes marks nodes counts exrs in
    let j = or_neither _ (ltb 1024 (length (written ds sequence))) e in
    let i = or_neither _ (any (λ (p : Stop). not (whole_exrs p.exrs)) sequence) j.0 in
    let h = or_neither _ (first_marked counts) i.0 in
    let g = or_neither _ (first_marked marks) h.0 in
    let f = or_neither _ (any (λ (m : ℕ). ltb 1 m) marks) g.0 in
    let d = or_neither _ (not (all_different indexes)) f.0 in
    let c = or_neither _ (any (λ (d : ℕ). leb (length ds) d) indexes) d.0 in
    let b = or_neither _ (unfit indexes marks nodes counts exrs) c.0 in
    let a = or_neither (eqb (length indexes) 0) (ltb 16 (length indexes)) b.0 in
    let w = or_neither _ (not (eqb (sum counts) (length exrs))) b.1 in
    let v = or_neither _ (not (eqb (length counts) (length indexes))) w.0 in
    let u = or_neither (not (eqb (length marks) (length indexes))) (not (eqb (length nodes) (length indexes))) v.0 in
    record {
      some_domain_lem = eqb-false (length indexes) 0 a.0;
      most = ltb-false 16 (length indexes) a.1;
      as_many_marks = eqb-true (length marks) (length indexes) (not-false _ u.0);
      as_many_nodes = eqb-true (length nodes) (length indexes) (not-false _ u.1);
      as_many_counts = eqb-true (length counts) (length indexes) (not-false _ v.1);
      all_bytes = eqb-true (sum counts) (length exrs) (not-false _ w.1);
      in_profile = c.1;
      different = not-false (all_different indexes) d.1;
      marks-known = f.1;
      unpinned = g.1;
      unexcluded = h.1;
      whole = i.1;
      short = ltb-false 1024 (length (written ds sequence)) j.1;
    }

-- each index is that of a domain
pub domain-inside
    : (ds : List Domain) (indexes marks nodes counts exrs : List ℕ) → Accepts ds indexes marks nodes counts exrs
    → (i : ℕ) → i < length indexes → get_or indexes i 0 < length ds
domain-inside ds indexes marks nodes counts exrs a i h = leb-false _ _ (any_false (λ (d : ℕ). leb (length ds) d) a.in_profile (get_or_mem indexes i 0 h))

-- ---- the sequence that code holds, by index

module _ (list : List ℕ) (ss : List NamedStop) (n : ℕ) where
  pub stops-length : length (stops_of list n ss) ≡ n
  unfolding stops_of
  stops-length = length-map-count_from (stop_in list ss) 0 n

  pub stop_at_lem : (i : ℕ) → i < n → get_or (stops_of list n ss) i no_stop ≡ stop_in list ss i
  unfolding stops_of
  stop_at_lem i h = get_or-map-count_from (stop_in list ss) 0 n i no_stop h ∙ ap (stop_in list ss) (zero-add i)
