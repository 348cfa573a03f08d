-- Reading what was written for a sequence gives the sequence: the AS and the area written for a domain name that domain and no other, so each stop is
-- entered in its turn, with its entry constraint and its EXRS. By recursion along the sequence, over the state that the reading is in.
use Prim.Native.Nat.{ℕ, zero, suc, ◌+◌, ◌≤◌, ◌<◌}
use native.Mathlib.Omega.{arith}
use mathlib.Core.Path.{◌≡◌, refl, sym, ap, ap₂, ◌∙◌}
use mathlib.Core.Bool.{Bool, true, false, ◌&&◌, true≢false, false≢true}
use mathlib.Core.List.{List, [], ◌∷◌, ◌++◌, append-nil, append_assoc}
use mathlib.Core.Option.{Option, none, some}
use lib.ListN.{length, length-append}
use lib.Dec.{eqb}
use borrow.Author.Tests.{eqb-true, eq-eqb, ne_eqb, lt-leb}
use Rattle.model.specs.declared.Domain.{Domain}
use Rattle.model.specs.Lists.{among, all_different, each, same}
use Rattle.model.specs.Along.{places_along}
use Rattle.model.specs.Subobject.{Named, prefix, system, area, stretch, Subobject, subobjects}
use Rattle.model.specs.Sequence.{Stop, stop, entry, exclusions, Waiting, node_or, bytes_in, exrs_of, ReadingInput, waiting_for, stop_with, State, Reading, good, continue, domain_of, has_area, of_system, of_area, pin_of, added, domains_of, enter, name, with_system, area_next, read_system, read_one, read_all, start_in, meaning}
use Rattle.model.specs.WrittenList.{written}
use Rattle.laws.proofs.Tests.{and_both, both_and, clash}
use Rattle.laws.proofs.Lists.{map-append, each_append}
use Rattle.laws.proofs.NumberLists.{keep_one, same_equal, same_self, different_fresh, different-behind, among-last, different_next}
use Rattle.laws.proofs.Subobjects.{Item, joined, placed}
use Rattle.laws.proofs.Exrs.{items_named, exrs_items, items_bytes}
use Rattle.laws.proofs.WrittenForm.{area_of, area_item, system_item, pin_item}
use Rattle.laws.proofs.WrittenItems.{pin_items, system_items, area_items, domain_items, items_from, Writable, written-subobjects}
use Rattle.laws.proofs.SoundDomains.{SoundDomains}

-- ---- entering a domain

enter_here : (o : ℕ) (st : State) (d : ℕ) → d ≡ st.here → enter o st d ≡ good st
unfolding enter
enter_here o st d e = rw (eq-eqb d st.here e)

enter_new
    : (o : ℕ) (st : State) (d : ℕ)
    → (d ≡ st.here → ⊥)
    → among d (domains_of st.sequence) ≡ false
    → length st.sequence < 16
    → enter o st d ≡ good (added st d)
unfolding enter
enter_new o st d away fresh room = rw (ne_eqb d st.here away, fresh, lt-leb 16 (length st.sequence) room)

-- ---- what waits

pin_snoc : (w : List Waiting) (o : ℕ) (bytes : List ℕ) → pin_of (w ++ (waiting_for o (exclusions bytes) ∷ [])) ≡ pin_of w
pin_snoc [] o bytes = refl
pin_snoc (x ∷ w) o bytes = ap (node_or x.what) (pin_snoc w o bytes)

exrs_snoc : (w : List Waiting) (o : ℕ) (bytes : List ℕ) → exrs_of (w ++ (waiting_for o (exclusions bytes) ∷ [])) ≡ exrs_of w ++ bytes
unfolding exrs_of each
exrs_snoc w o bytes =
    each_append (λ (x : Waiting). bytes_in x.what) w (waiting_for o (exclusions bytes) ∷ [])
    ∙ ap {B = List ℕ} (λ (l : List ℕ). exrs_of w ++ l) (append-nil bytes)

-- EXRS before something that isn't an area
exrs_calm : (subs : List Subobject) (tail : List Item) → ((o : ℕ) → area_next (placed o tail) ≡ false) → (o : ℕ) → area_next (placed o (exrs_items subs ++ tail)) ≡ false
unfolding exrs_items each
exrs_calm [] tail calm o = calm o
exrs_calm (x ∷ subs) tail calm o = go x.names (exrs_calm subs tail calm o)
  where
    go : (n : Named) → area_next (placed o (exrs_items subs ++ tail)) ≡ false → area_next (placed o ((items_named n ++ exrs_items subs) ++ tail)) ≡ false
    go (prefix a n) later = later
    go (system n) later = later
    go (area a) later = later
    go (stretch bytes) later = refl

-- ---- naming a domain

module _ (R : ReadingInput) (sound : SoundDomains R.domains) where
  abbrev ds : List Domain
  ds = R.domains

  -- an AS with a record of kind 0 names that domain
  system-names : (d : ℕ) → d < length ds → (domain_of ds d).kind ≡ 0 → of_system ds (domain_of ds d).asn ≡ d ∷ []
  unfolding of_system
  system-names d h k =
      let n = (domain_of ds d).asn in
      keep_one (λ (i : ℕ). eqb (domain_of ds i).asn n) 0 (length ds) d (omega arith) (omega arith) (eq-eqb n n refl)
      (λ i l t. sym (sound.alone d i h (omega arith) k (sym (eqb-true (domain_of ds i).asn n t))))

  -- an area in its AS names the domain that has it
  area-names : (d : ℕ) → d < length ds → of_area ds (domain_of ds d).asn (area_of (domain_of ds d)) ≡ d ∷ []
  unfolding of_area
  area-names d h =
      let D = domain_of ds d in
      keep_one (λ (i : ℕ). eqb (domain_of ds i).asn D.asn && has_area (area_of D) (domain_of ds i)) 0 (length ds) d (omega arith) (omega arith)
      (both_and (eqb D.asn D.asn) (has_area (area_of D) D) (eq-eqb D.asn D.asn refl)
      (both_and (eqb D.kind D.kind) (same (area_of D).bytes (area_of D).bytes) (eq-eqb D.kind D.kind refl) (same_self (area_of D).bytes)))
      (λ i l t.
      let I = domain_of ds i in
      let x = and_both (eqb I.asn D.asn) (has_area (area_of D) I) t in
      let y = and_both (eqb I.kind D.kind) (same (area_of I).bytes (area_of D).bytes) x.1 in
      sound.distinct i d (omega arith) h (eqb-true I.asn D.asn x.0) (eqb-true I.kind D.kind y.0) (same_equal (area_of I).bytes (area_of D).bytes y.1))

  -- What is written for a domain, read in a state: its AS is set, and the domain entered. The AS may be left out where it is the current one and the
  -- domain has an area; where it has none, no area comes next.
  module _ (st st' : State) (d : ℕ) (inside : d < length ds) (tail : List Item) (result : Reading (List Stop))
      (enters : (o : ℕ) → enter o (with_system st (domain_of ds d).asn) d ≡ good st')
      (next : (o : ℕ) → read_all R (placed o tail) st' ≡ result)
      (calm : (domain_of ds d).kind ≡ 0 → (o : ℕ) → area_next (placed o tail) ≡ false) where
    by_name : (names : List ℕ) → names ≡ d ∷ [] → (o later : ℕ) → continue (name o (with_system st (domain_of ds d).asn) names) (λ (s : State). read_all R (placed later tail) s) ≡ result
    unfolding name
    by_name names e o later =
        let on : State → Reading (List Stop) = λ (s : State). read_all R (placed later tail) s in
        ap (λ (l : List ℕ). continue (name o (with_system st (domain_of ds d).asn) l) on) e ∙ ap (λ (r : Reading State). continue r on) (enters o) ∙ next later

    named
        : (again : Bool) (k : ℕ)
        → (domain_of ds d).kind ≡ k
        → (again ≡ true → (st.asn ≡ (domain_of ds d).asn) × (k ≡ 0 → ⊥))
        → (o : ℕ)
        → read_all R (placed o (system_items again (domain_of ds d).asn ++ area_items k (domain_of ds d) ++ tail)) st ≡ result
    unfolding read_all read_one
    named true zero e h o = absurd ((h refl).1 refl)
    named true (suc k) e h o =
        let D = domain_of ds d in
        let later = o + length (area_item (suc k) D).bytes in
        let already : st ≡ with_system st D.asn = λ i. record { asn = (h refl).0 i; here = st.here; sequence = st.sequence; waiting = st.waiting } in
        ap (λ (s : State). continue (name o s (of_area ds s.asn (area_of D))) (λ (x : State). read_all R (placed later tail) x)) already
        ∙ by_name (of_area ds D.asn (area_of D)) (area-names d inside) o later
    named false zero e h o =
        let D = domain_of ds d in
        let later = o + length (system_item D.asn).bytes in
        ap (λ (b : Bool). continue (read_system R o st D.asn b) (λ (x : State). read_all R (placed later tail) x)) (calm e later)
        ∙ by_name (of_system ds D.asn) (system-names d inside e) o later
    named false (suc k) e h o =
        let D = domain_of ds d in
        let between = o + length (system_item D.asn).bytes in
        by_name (of_area ds D.asn (area_of D)) (area-names d inside) between (between + length (area_item (suc k) D).bytes)

    domain-read
        : (again : Bool)
        → (again ≡ true → (st.asn ≡ (domain_of ds d).asn) × ((domain_of ds d).kind ≡ 0 → ⊥))
        → (o : ℕ)
        → read_all R (placed o (domain_items again (domain_of ds d) ++ tail)) st ≡ result
    domain-read again h o = named again (domain_of ds d).kind refl h o

  -- an entry constraint that is written waits; where none is, none does
  pin-read
      : (pin : Option ℕ) (asn here : ℕ) (sequence : List Stop) (tail : List Item) (result : Reading (List Stop))
      → ((o : ℕ) (w : List Waiting) → pin_of w ≡ pin → exrs_of w ≡ [] → read_all R (placed o tail) (record { asn = asn; here = here; sequence = sequence; waiting = w }) ≡ result)
      → (o : ℕ)
      → read_all R (placed o (pin_items pin ++ tail)) (record { asn = asn; here = here; sequence = sequence; waiting = [] }) ≡ result
  unfolding read_all read_one exrs_of each
  pin-read none asn here sequence tail result next o = next o [] refl refl
  pin-read (some node) asn here sequence tail result next o =
      next (o + length (pin_item node).bytes) (waiting_for o (entry node) ∷ []) refl refl

  -- the EXRS that are written wait beside it, in their order: the rest is read with all of them waiting
  abbrev Behind : ℕ → ℕ → List Stop → List Item → Reading (List Stop) → List Waiting → List Item → Type 0
  Behind asn here sequence tail result w items =
      (o : ℕ) (w' : List Waiting) → pin_of w' ≡ pin_of w → exrs_of w' ≡ exrs_of w ++ joined items
      → read_all R (placed o tail) (record { asn = asn; here = here; sequence = sequence; waiting = w' }) ≡ result

  exrs-read
      : (subs : List Subobject) (asn here : ℕ) (sequence : List Stop) (tail : List Item) (result : Reading (List Stop)) (w : List Waiting)
      → Behind asn here sequence tail result w (exrs_items subs)
      → (o : ℕ)
      → read_all R (placed o (exrs_items subs ++ tail)) (record { asn = asn; here = here; sequence = sequence; waiting = w }) ≡ result
  unfolding read_all read_one exrs_items each
  exrs-read [] asn here sequence tail result w next o = next o w refl (sym (append-nil (exrs_of w)))
  exrs-read (x ∷ subs) asn here sequence tail result w next o = go x.names next (λ w₁ more o₁. exrs-read subs asn here sequence tail result w₁ more o₁)
    where
      go : (n : Named)
          → Behind asn here sequence tail result w (items_named n ++ exrs_items subs)
          → ((w₁ : List Waiting) → Behind asn here sequence tail result w₁ (exrs_items subs) → (o₁ : ℕ) → read_all R (placed o₁ (exrs_items subs ++ tail)) (record { asn = asn; here = here; sequence = sequence; waiting = w₁ }) ≡ result)
          → read_all R (placed o ((items_named n ++ exrs_items subs) ++ tail)) (record { asn = asn; here = here; sequence = sequence; waiting = w }) ≡ result
      go (prefix a n) more later = later w more o
      go (system n) more later = later w more o
      go (area a) more later = later w more o
      go (stretch bytes) more later =
          later (w ++ (waiting_for o (exclusions bytes) ∷ []))
          (λ o' w' p e.
          more o' w' (p ∙ pin_snoc w o bytes)
          (e ∙ ap {B = List ℕ} (λ (l : List ℕ). l ++ joined (exrs_items subs)) (exrs_snoc w o bytes) ∙ append_assoc (exrs_of w) bytes (joined (exrs_items subs))))
          (o + length bytes)

  -- behind a domain of kind 0 comes a constraint, an EXRS, another AS or nothing
  quiet
      : (d : ℕ) (rest : List Stop)
      → d < length ds
      → Writable ds rest
      → all_different (d ∷ domains_of rest) ≡ true
      → (domain_of ds d).kind ≡ 0
      → (o : ℕ)
      → area_next (placed o (items_from ds (some (domain_of ds d).asn) rest)) ≡ false
  quiet d [] h w t k o = refl
  quiet d (q ∷ more) h w t k o =
      let Q = domain_of ds q.domain in
      let other : eqb Q.asn (domain_of ds d).asn ≡ false =
      ne_eqb Q.asn (domain_of ds d).asn
      (λ e. different_next d q.domain (domains_of more) t (sound.alone d q.domain h w.0 k (sym e))) in
      let later = items_from ds (some Q.asn) more in
      go q.pin _ (exrs_calm (subobjects q.exrs) (domain_items (eqb Q.asn (domain_of ds d).asn) Q ++ later) (λ o'. named_calm o' (eqb Q.asn (domain_of ds d).asn) other Q later) o)
    where
      named_calm : (o' : ℕ) (again : Bool) → again ≡ false → (D : Domain) (later : List Item) → area_next (placed o' (domain_items again D ++ later)) ≡ false
      named_calm o' true e D later = absurd (true≢false e)
      named_calm o' false e D later = refl

      go : (pin : Option ℕ) (items : List Item) → area_next (placed o items) ≡ false → area_next (placed o (pin_items pin ++ items)) ≡ false
      go none items e = e
      go (some node) items e = refl

  -- The reading stands in the last domain of what is read so far, with its AS as current and nothing waiting: the rest of the sequence is read behind it.
  rest_read
      : (rest done : List Stop) (last : ℕ)
      → last < length ds
      → among last (domains_of done) ≡ true
      → Writable ds rest
      → all_different (domains_of done ++ domains_of rest) ≡ true
      → length done + length rest ≤ 16
      → (o : ℕ)
      → read_all R (placed o (items_from ds (some (domain_of ds last).asn) rest)) (record { asn = (domain_of ds last).asn; here = last; sequence = done; waiting = [] })
      ≡ good (done ++ rest)
  unfolding read_all
  rest_read [] done last h m w t r o = ap good (sym (append-nil done))
  rest_read (p ∷ rest) done last h m w t r o =
      let d = p.domain in
      let D = domain_of ds d in
      let n = (domain_of ds last).asn in
      let fresh : among d (domains_of done) ≡ false = different_fresh (domains_of done) d (domains_of rest) t in
      let away : d ≡ last → ⊥ = λ e. clash m (ap (λ (i : ℕ). among i (domains_of done)) (sym e) ∙ fresh) in
      let behind : all_different (d ∷ domains_of rest) ≡ true = different-behind (domains_of done) (d ∷ domains_of rest) t in
      let longer : domains_of (done ++ (p ∷ [])) ≡ domains_of done ++ (d ∷ []) = map-append (λ (x : Stop). x.domain) done (p ∷ []) in
      let others : all_different (domains_of (done ++ (p ∷ [])) ++ domains_of rest) ≡ true = rw (longer, append_assoc) t in
      let later = items_from ds (some D.asn) rest in
      let result : Reading (List Stop) = good (done ++ (p ∷ rest)) in
      let subs = subobjects p.exrs in
      pin-read p.pin n last done (exrs_items subs ++ (domain_items (eqb D.asn n) D ++ later)) result
      (λ o₁ wait₁ e₁ none_yet.
      exrs-read subs n last done (domain_items (eqb D.asn n) D ++ later) result wait₁
      (λ o' wait e₂ all.
      let st : State = record { asn = n; here = last; sequence = done; waiting = wait } in
      let bytes : exrs_of wait ≡ p.exrs = all ∙ ap {B = List ℕ} (λ (l : List ℕ). l ++ joined (exrs_items subs)) none_yet ∙ items_bytes subs ∙ w.2.0.those in
      let itself : stop_with d wait ≡ p = ap₂ (stop d) (e₂ ∙ e₁) bytes in
      domain-read st (added (with_system st D.asn) d) d w.0 later result (λ o''. enter_new o'' (with_system st D.asn) d away fresh (omega arith))
      (λ o''.
      ap (λ (x : Stop). read_all R (placed o'' later) (record { asn = D.asn; here = d; sequence = done ++ (x ∷ []); waiting = [] })) itself
      ∙ rest_read rest (done ++ (p ∷ [])) d w.0 (rw longer (among-last (domains_of done) d)) w.3 others (omega (arith, length-append done (p ∷ []))) o''
      ∙ ap good (append_assoc done (p ∷ []) rest))
      (quiet d rest w.0 w.3 behind)
      (eqb D.asn n)
      (λ again. (sym (eqb-true D.asn n again), λ k. away (sound.alone d last w.0 h k (eqb-true D.asn n again))))
      o')
      o₁)
      o

  -- The whole list, read in its first domain, which has no entry constraint and no EXRS: naming the domain one is in adds nothing.
  pub stops-read
      : (p : Stop) (rest : List Stop)
      → p.pin ≡ none
      → p.exrs ≡ []
      → Writable ds (p ∷ rest)
      → all_different (domains_of (p ∷ rest)) ≡ true
      → length (p ∷ rest) ≤ 16
      → meaning R p.domain (written ds (p ∷ rest)) ≡ good (p ∷ rest)
  unfolding meaning exrs_items each exrs_of subobjects places_along
  stops-read p rest e x w t r =
      let d = p.domain in
      let D = domain_of ds d in
      let later = items_from ds (some D.asn) rest in
      let itself : stop_with d [] ≡ p = ap₂ (stop d) (sym e) (sym x) in
      let start : State = start_in R d in
      ap (λ (subs : List Subobject). read_all R subs start) (written-subobjects ds sound (p ∷ rest) w)
      ∙ ap₂ (λ (pin : Option ℕ) (exrs : List ℕ). read_all R (placed 0 (pin_items pin ++ (exrs_items (subobjects exrs) ++ (domain_items false D ++ later)))) start) e x
      ∙ domain-read start start d w.0 later (good (p ∷ rest)) (λ o. enter_here o start d refl)
      (λ o.
      ap (λ (x : Stop). read_all R (placed o later) (record { asn = D.asn; here = d; sequence = x ∷ []; waiting = [] })) itself
      ∙ rest_read rest (p ∷ []) d w.0 (among-last [] d) w.3 t (omega arith) o)
      (quiet d rest w.0 w.3 t)
      false
      (λ again. absurd (false≢true again))
      0
