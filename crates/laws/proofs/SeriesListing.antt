-- What a series says of the listing: a first and then nexts hand it out whole and in order, a next tells the end exactly after its last path, a first says that
-- there is none exactly when it is empty. Over the reference series, whose number p goes with the path last handed out.
use mathlib.Core.Path.{◌≡◌, refl, sym, subst, ◌∙◌, ap}
use mathlib.Core.Logic.{◌↔◌}
use mathlib.Core.Bool.{Bool, true, false}
use mathlib.Core.List.{List, [], ◌∷◌, ◌++◌, map, Memᴰ}
use Prim.Native.Nat.{ℕ, zero, suc, ◌-◌, ◌≤◌, ◌<◌, zero-le}
use native.Mathlib.Nat.{le_of_eq}
use native.Mathlib.Omega.{arith}
use lib.ListN.{length, get_or, take, drop, drop_of_length-le}
use lib.Seq.{drop-cons}
use lib.Dec.{eqb, ltb, eqb-suc-zero}
use borrow.Author.Tests.{eqb-true, eqb-false, le-ltb}
use Rattle.model.specs.declared.Round.{Round}
use Rattle.model.specs.Lists.{over}
use Rattle.model.specs.Path.{Route}
use Rattle.model.specs.Answers.{plain4}
use Rattle.model.specs.Calls.{found}
use Rattle.model.specs.Series.{Kind, first_call, next_call, Call, Reply, reply_to, Entry, no_route, book_first, book_next, book_entry, book, last_after}
use Rattle.laws.proofs.Lists.{over-take}
use Rattle.laws.proofs.Ascending.{get_or_mem}
use Rattle.laws.proofs.ShortestPathsExact.{Ascending, EachLong, ascending_once}
pub use Rattle.laws.proofs.SeriesWords.{next_with, first_with, first_then_nexts, handed_out, Roomy, last_handed, last_path, no_reply, reply_at}

-- ---- a first and then nexts

module _ (round : Round) (listing : List Route) (needed : ℕ) where
  next_hands : (b : List ℕ) (bs : List (List ℕ)) (p : ℕ) (end : Bool) → eqb p (length listing) ≡ end → p ≤ length listing
      → let e = book_next false false end round listing p in
      ((q : ℕ) → q ≤ length listing → 0 < q → book round listing needed q (map next_with bs) ≡ handed_out round (drop q listing) bs)
      → 0 < p
      → reply_to (next_with b) e.outcome ∷ book round listing needed e.after (map next_with bs) ≡ handed_out round (drop p listing) (b ∷ bs)
  unfolding handed_out over
  next_hands b bs p true t l rest s =
      let none : drop p listing ≡ [] = drop_of_length-le listing (le_of_eq (sym (eqb-true p (length listing) t))) in
      ap (λ (xs : List Reply). record { numbers = plain4 2; buffer = b } ∷ xs) (rest p l s ∙ ap (λ (ps : List Route). handed_out round ps bs) none)
      ∙ ap (λ (ps : List Route). handed_out round ps (b ∷ bs)) (sym none)
  next_hands b bs p false t l rest s =
      let n = eqb-false p (length listing) t in
      let some : drop p listing ≡ get_or listing p no_route ∷ drop (suc p) listing = drop-cons listing p no_route (omega arith) in
      ap (λ (xs : List Reply). reply_to (next_with b) (found round (get_or listing p no_route)) ∷ xs) (rest (suc p) (omega arith) (omega arith))
      ∙ ap (λ (ps : List Route). handed_out round ps (b ∷ bs)) (sym some)

  nexts_hand : (bs : List (List ℕ)) → Roomy needed bs → (p : ℕ) → p ≤ length listing → 0 < p → book round listing needed p (map next_with bs) ≡ handed_out round (drop p listing) bs
  unfolding book handed_out
  nexts_hand [] room p l s = refl
  nexts_hand (b ∷ bs) room p l s =
      let started : eqb p 0 ≡ false = positive p s in
      let roomy : ltb (length b) needed ≡ false = le-ltb (length b) needed (room b (Memᴰ.head refl)) in
      ap
      (λ (x : Bool). let e = book_next x (ltb (length b) needed) (eqb p (length listing)) round listing p in reply_to (next_with b) e.outcome ∷ book round listing needed e.after (map next_with bs))
      started
      ∙ ap
      (λ (x : Bool). let e = book_next false x (eqb p (length listing)) round listing p in reply_to (next_with b) e.outcome ∷ book round listing needed e.after (map next_with bs))
      roomy
      ∙ next_hands b bs p (eqb p (length listing)) refl l (nexts_hand bs (λ d m. room d (Memᴰ.tail m))) s
    where
      positive : (n : ℕ) → 0 < n → eqb n 0 ≡ false
      positive zero h = absurd (omega arith)
      positive (suc n) h = eqb-suc-zero n

pub hands_out : (round : Round) (listing : List Route) (needed : ℕ) → 0 < length listing
    → (bs : List (List ℕ)) → Roomy needed bs → book round listing needed 0 (first_then_nexts bs) ≡ handed_out round listing bs
unfolding book handed_out
hands_out round [] needed some bs room = absurd (omega arith)
hands_out round (q ∷ qs) needed some [] room = refl
hands_out round (q ∷ qs) needed some (b ∷ bs) room =
    let roomy : ltb (length b) needed ≡ false = le-ltb (length b) needed (room b (Memᴰ.head refl)) in
    ap
    (λ (x : Bool). let e = book_first x (eqb (suc (length qs)) 0) round (q ∷ qs) 0 in reply_to (first_with b) e.outcome ∷ book round (q ∷ qs) needed e.after (map next_with bs))
    roomy
    ∙ ap
    (λ (x : Bool). let e = book_first false x round (q ∷ qs) 0 in reply_to (first_with b) e.outcome ∷ book round (q ∷ qs) needed e.after (map next_with bs))
    (eqb-suc-zero (length qs))
    ∙ ap
    (λ (xs : List Reply). reply_to (first_with b) (found round q) ∷ xs)
    (nexts_hand round (q ∷ qs) needed bs (λ d m. room d (Memᴰ.tail m)) 1 (omega arith) (omega arith))

-- ---- the number and the path last handed out, after any calls

module _ (round : Round) (listing : List Route) (needed : ℕ) where
  -- the book's number after some calls
  unfoldable after_calls : ℕ → List Call → ℕ
  after_calls p [] = p
  after_calls p (c ∷ cs) = after_calls (book_entry round listing needed p c.kind (length c.buffer)).after cs

  reply-behind : (cs : List Call) (c : Call) (ds : List Call) (p : ℕ)
      → reply_at (length cs) (book round listing needed p (cs ++ (c ∷ ds)))
      ≡ reply_to c (book_entry round listing needed (after_calls p cs) c.kind (length c.buffer)).outcome
  unfolding book after_calls
  reply-behind [] c ds p = refl
  reply-behind (x ∷ cs) c ds p = reply-behind cs c ds (book_entry round listing needed p x.kind (length x.buffer)).after

  -- the number and the path go together: 0 and none, or i + 1 and path i
  abbrev Stands : ℕ → List ℕ → Type 0
  Stands zero last = last ≡ []
  Stands (suc i) last = (i < length listing) × (last ≡ (get_or listing i no_route).addresses)

  stands_most : (p : ℕ) (last : List ℕ) → Stands p last → p ≤ length listing
  stands_most zero last h = zero-le
  stands_most (suc i) last h = h.0

  -- what a reply of the book's entry leaves as the path last handed out
  abbrev Left : List ℕ → Call → Entry → Type 0
  Left last c e =
      let x = reply_to c e.outcome in
      Stands e.after (last_after (eqb x.numbers.answer 0) (take needed x.buffer) last)

  module _ (long : EachLong needed listing) (c : Call) where
    path-left : (i : ℕ) → i < length listing → take needed (over (get_or listing i no_route).addresses c.buffer) ≡ (get_or listing i no_route).addresses
    path-left i h =
        let a : List ℕ = (get_or listing i no_route).addresses in
        subst (λ (n : ℕ). take n (over a c.buffer) ≡ a) (long (get_or listing i no_route) (get_or_mem listing i no_route h)) (over-take a c.buffer)

    module _ (p : ℕ) (last : List ℕ) (h : Stands p last) where
      first_left : (small empty : Bool) → eqb (length listing) 0 ≡ empty → Left last c (book_first small empty round listing p)
      first_left true empty e = h
      first_left false true e = h
      first_left false false e = let n = eqb-false (length listing) 0 e in (omega arith, path-left 0 (omega arith))

      next-left : (start small end : Bool) → eqb p (length listing) ≡ end → Left last c (book_next start small end round listing p)
      next-left true small end e = h
      next-left false true end e = h
      next-left false false true e = h
      next-left false false false e =
          let n = eqb-false p (length listing) e in
          let l = stands_most p last h in
          (omega arith, path-left p (omega arith))

      entry_left : (kind : Kind) (room : ℕ) → Left last c (book_entry round listing needed p kind room)
      entry_left first_call room = first_left (ltb room needed) (eqb (length listing) 0) refl
      entry_left next_call room = next-left (eqb p 0) (ltb room needed) (eqb p (length listing)) refl

  stands_after : EachLong needed listing → (cs : List Call) (p : ℕ) (last : List ℕ) → Stands p last → Stands (after_calls p cs) (last_handed needed last (book round listing needed p cs))
  unfolding book after_calls last_handed
  stands_after long [] p last h = h
  stands_after long (c ∷ cs) p last h =
      let e = book_entry round listing needed p c.kind (length c.buffer) in
      let x = reply_to c e.outcome in
      stands_after long cs e.after (last_after (eqb x.numbers.answer 0) (take needed x.buffer) last) (entry_left long c p last h c.kind (length c.buffer))

  -- ---- the end, and no path

  abbrev number : Entry → ℕ
  number e = e.outcome.numbers.answer

  end-told : (end : Bool) (i : ℕ) → eqb (suc i) (length listing) ≡ end → (number (book_next false false end round listing (suc i)) ≡ 2) ↔ (suc i ≡ length listing)
  end-told true i t = (λ e. eqb-true (suc i) (length listing) t, λ e. refl)
  end-told false i t = (λ (e : ◌≡◌ {A = ℕ} 0 2). absurd (omega arith), λ (e : suc i ≡ length listing). absurd (eqb-false (suc i) (length listing) t e))

  none_told : (empty : Bool) (p : ℕ) → eqb (length listing) 0 ≡ empty → (number (book_first false empty round listing p) ≡ 1) ↔ (length listing ≡ 0)
  none_told true p t = (λ e. eqb-true (length listing) 0 t, λ e. refl)
  none_told false p t = (λ (e : ◌≡◌ {A = ℕ} 0 1). absurd (omega arith), λ (e : length listing ≡ 0). absurd (eqb-false (length listing) 0 t e))

  -- path i is the last one exactly when its addresses are the last one's: no two places hold the same
  last_place : Ascending listing → (i : ℕ) → i < length listing → ((get_or listing i no_route).addresses ≡ last_path listing) ↔ (suc i ≡ length listing)
  last_place up i h = (
    λ e. decide (eqb (suc i) (length listing)) refl e,
    λ (e : suc i ≡ length listing). ap (λ (j : ℕ). (get_or listing j no_route).addresses) (omega arith),
  )
    where
      decide : (b : Bool) → eqb (suc i) (length listing) ≡ b → (get_or listing i no_route).addresses ≡ last_path listing → suc i ≡ length listing
      decide true t e = eqb-true (suc i) (length listing) t
      decide false t e = let n = eqb-false (suc i) (length listing) t in absurd (ascending_once listing up i (length listing - 1) (omega arith) (omega arith) e)

  empty_none : (listing ≡ []) ↔ (length listing ≡ 0)
  empty_none = (λ e. ap length e, no_length listing)
    where
      no_length : (xs : List Route) → length xs ≡ 0 → xs ≡ []
      no_length [] e = refl
      no_length (x ∷ xs) e = absurd (omega arith)

-- a next with room after some calls that handed out a path tells the end exactly when that path is the listing's last
pub tells_end : (round : Round) (listing : List Route) (needed : ℕ) → Ascending listing → EachLong needed listing
    → (before : List Call) (b : List ℕ) (behind : List Call) → needed ≤ length b
    → 0 < length (last_handed needed [] (book round listing needed 0 before))
    → ((reply_at (length before) (book round listing needed 0 (before ++ (next_with b ∷ behind)))).numbers.answer ≡ 2)
    ↔ (last_handed needed [] (book round listing needed 0 before) ≡ last_path listing)
tells_end round listing needed up long before b behind room started = go (after_calls round listing needed 0 before) refl (stands_after round listing needed long before 0 [] refl)
  where
    last : List ℕ
    last = last_handed needed [] (book round listing needed 0 before)

    go : (p : ℕ) → after_calls round listing needed 0 before ≡ p → Stands round listing needed p last
        → ((reply_at (length before) (book round listing needed 0 (before ++ (next_with b ∷ behind)))).numbers.answer ≡ 2) ↔ (last ≡ last_path listing)
    go zero e h = absurd (omega (arith, ap length h))
    go (suc i) e h =
        let room' : ltb (length b) needed ≡ false = le-ltb (length b) needed room in
        let reply : (reply_at (length before) (book round listing needed 0 (before ++ (next_with b ∷ behind)))).numbers.answer ≡ number round listing needed (book_next false false (eqb (suc i) (length listing)) round listing (suc i)) =
        ap (λ (x : Reply). x.numbers.answer) (reply-behind round listing needed before (next_with b) behind 0)
        ∙ ap (λ (q : ℕ). number round listing needed (book_next (eqb q 0) (ltb (length b) needed) (eqb q (length listing)) round listing q)) e
        ∙ ap (λ (x : Bool). number round listing needed (book_next x (ltb (length b) needed) (eqb (suc i) (length listing)) round listing (suc i))) (eqb-suc-zero i)
        ∙ ap (λ (x : Bool). number round listing needed (book_next false x (eqb (suc i) (length listing)) round listing (suc i))) room' in
        let end = end-told round listing needed (eqb (suc i) (length listing)) i refl in
        let place = last_place round listing needed up i h.0 in
        (λ t. h.1 ∙ place.1 (end.0 (sym reply ∙ t)), λ t. reply ∙ end.1 (place.0 (sym h.1 ∙ t)))

-- a first with room after any calls answers 1 exactly when nothing is listed
pub tells_none : (round : Round) (listing : List Route) (needed : ℕ)
    → (before : List Call) (b : List ℕ) (behind : List Call) → needed ≤ length b
    → ((reply_at (length before) (book round listing needed 0 (before ++ (first_with b ∷ behind)))).numbers.answer ≡ 1) ↔ (listing ≡ [])
tells_none round listing needed before b behind room =
    let reply : (reply_at (length before) (book round listing needed 0 (before ++ (first_with b ∷ behind)))).numbers.answer ≡ number round listing needed (book_first false (eqb (length listing) 0) round listing (after_calls round listing needed 0 before)) =
    ap (λ (x : Reply). x.numbers.answer) (reply-behind round listing needed before (first_with b) behind 0)
    ∙ ap (λ (x : Bool). number round listing needed (book_first x (eqb (length listing) 0) round listing (after_calls round listing needed 0 before))) (le-ltb (length b) needed room) in
    let none = none_told round listing needed (eqb (length listing) 0) (after_calls round listing needed 0 before) refl in
    let empty = empty_none round listing needed in
    (λ t. empty.1 (none.0 (sym reply ∙ t)), λ t. reply ∙ none.1 (empty.0 t))
