-- One turn of the loop that makes the calls: what is left in the buffers and the numbers so far, with the replies to the calls still to make, are all the
-- replies. By the definition of the run, a call at a time.
use Prim.Native.Nat.{ℕ, suc, ◌+◌, ◌*◌, ◌≤◌, ◌<◌}
use native.Mathlib.Numerals.{add-one}
use native.Mathlib.Omega.{arith}
use mathlib.Core.Path.{◌≡◌, refl, sym, ap, ap₂, ◌∙◌}
use mathlib.Core.Bool.{Bool, true, false, true≢false}
use Rattle.std.specs.Prelude.{Result, Ok, Err}
use Rattle.std.specs.Result.{is_ok}
use mathlib.Core.List.{List, [], ◌∷◌, ◌++◌, append_assoc, append-nil}
use lib.Dec.{eqb}
use lib.ListN.{length, get_or, take, drop, take-append-drop, drop_of_length-le, length-drop}
use lib.Seq.{length-take-le, take_all, drop-cons, drop-drop, slice_empty, length-paste}
use Rattle.model.specs.declared.PathAnswer.{PathAnswer}
use Rattle.model.specs.declared.PathAnswer.TheVariants.{Found, NoPath, End}
use Rattle.model.specs.declared.Refusal.{Refusal}
use Rattle.model.specs.Lists.{each, over, sum}
use Rattle.model.specs.Request.{Request}
use Rattle.model.specs.Answers.{Numbers, numbers_of_path}
use Rattle.model.specs.Calls.{Outcome}
use Rattle.model.specs.Series.{Call, Reply, reply_to, call_outcome, last_after, run}
use Rattle.path_answers.specs.declared.PathReply.{PathReply}
use Rattle.path_answers.specs.PathReply.{ReplyIs}
use Rattle.path_series.specs.Calls.{kind_of, calls_of}
use Rattle.path_answers.specs.Numbers.{five_of, Real}
use Rattle.path_series.specs.declared.calls.LastPath.{LastPath}
use Rattle.path_series.specs.Turns.{ReplyPut, answer_of, handed_out, last_of, last_path_after}
use Rattle.path_series.specs.Runs.{numbers_of, buffer_of, Left}
use Rattle.path_series.proofs.Forms.{Formed, sum_here, sum_none}
use Rattle.path_series.proofs.Pieces.{pasted_take, pasted_drop}

-- the calls from number j on, whose buffers start at a place
abbrev pub calls_from : List ℕ → List ℕ → ℕ → ℕ → List ℕ → List Call
calls_from kinds sizes j at buffers = calls_of (drop j kinds) (drop j sizes) (drop at buffers)

-- the loop's state before call j, whose buffer starts at `at`
pub record Progress (r : Request) (kinds sizes buffers₀ numbers₀ buffers numbers : List ℕ) (last : LastPath) (at j : ℕ) : Type 0 where
  pub within : j ≤ length kinds
  pub few : last.count ≤ 17
  pub reach : at + sum (drop j sizes) ≡ length buffers₀
  pub buffers-long : length buffers ≡ length buffers₀
  pub numbers-long : length numbers ≡ length numbers₀
  pub in_buffers : take at buffers ++ each buffer_of (run r (last_of last) (calls_from kinds sizes j at buffers)) ≡ each buffer_of (run r [] (calls_of kinds sizes buffers₀))
  pub in_numbers : take (5 * j) numbers ++ each numbers_of (run r (last_of last) (calls_from kinds sizes j at buffers)) ≡ each numbers_of (run r [] (calls_of kinds sizes buffers₀))
  pub behind : drop (5 * j) numbers ≡ drop (5 * j) numbers₀

pub begin : (r : Request) (kinds sizes buffers numbers path : List ℕ) → Formed kinds sizes (length buffers) (length numbers)
    → Progress r kinds sizes buffers numbers buffers numbers (record { path = path; count = 0 }) 0 0
begin r kinds sizes buffers numbers path f =
    record {
      within = omega arith;
      few = omega arith;
      reach = omega (arith, f.whole);
      buffers-long = refl;
      numbers-long = refl;
      in_buffers = refl;
      in_numbers = refl;
      behind = refl;
    }

-- ---- one call

calls_here : (kinds sizes buffers : List ℕ) (j at : ℕ) → j < length kinds → j < length sizes
    → calls_from kinds sizes j at buffers
    ≡ record { kind = kind_of (get_or kinds j 0); buffer = take (get_or sizes j 0) (drop at buffers) }
    ∷ calls_of (drop (suc j) kinds) (drop (suc j) sizes) (drop (get_or sizes j 0) (drop at buffers))
unfolding calls_of
calls_here kinds sizes buffers j at h k = ap₂ (λ (ks ns : List ℕ). calls_of ks ns (drop at buffers)) (drop-cons kinds j 0 h) (drop-cons sizes j 0 k)

-- what a reply says of an outcome, also where it refuses
pub record Said (o : Outcome ℕ) (room : ℕ) (R : Result PathReply Refusal) : Type 0 where
  pub numbers_are : numbers_of_path (answer_of R) ≡ o.numbers
  pub written_is : take (handed_out R).count (handed_out R).path ≡ o.written
  pub few : (handed_out R).count ≤ 17
  pub fits : (handed_out R).count ≤ room
  pub long : length (handed_out R).path ≡ 17
  pub real : Real (answer_of R)

pub said : (o : Outcome ℕ) (room : ℕ) (R : Result PathReply Refusal) → ReplyIs o room R → Said o room R
said o room (Ok r) by =
    record { numbers_are = by.numbers_are; written_is = by.written_is; few = by.few; fits = by.fits; long = by.long; real = by.real }
said o room (Err r) e =
    record {
      numbers_are = sym (ap (λ (x : Outcome ℕ). x.numbers) e);
      written_is = sym (ap (λ (x : Outcome ℕ). x.written) e);
      few = omega arith;
      fits = omega arith;
      long = refl;
      real = λ n x round f. absurd (true≢false (sym (ap is_ok f)));
    }

-- what a call that was routed so replies, and the run behind it
run_here : (r : Request) (given : List ℕ) (c : Call) (cs : List Call) (room : ℕ) (R : Result PathReply Refusal) → length c.buffer ≡ room
    → ReplyIs (call_outcome r given c.kind room) room R
    → run r given (c ∷ cs)
    ≡ record { numbers = numbers_of_path (answer_of R); buffer = over (take (handed_out R).count (handed_out R).path) c.buffer }
    ∷ run r (last_after (eqb (numbers_of_path (answer_of R)).answer 0) (take (handed_out R).count (handed_out R).path) given) cs
unfolding run
run_here r given c cs room R e by =
    ap (λ (k : ℕ). let o = call_outcome r given c.kind k in reply_to c o ∷ run r (last_after (eqb o.numbers.answer 0) o.written given) cs) e
    ∙ ap₂
    (λ (n : Numbers) (w : List ℕ). record { numbers = n; buffer = over w c.buffer } ∷ run r (last_after (eqb n.answer 0) w given) cs)
    (sym (said _ room R by).numbers_are)
    (sym (said _ room R by).written_is)

-- the path last handed out after a call: as the run has it, and at most 17 addresses
module _ (R : Result PathReply Refusal) (last : LastPath) where
  last-after : (b : Bool) → last_of (last_path_after b R last) ≡ last_after b (take (handed_out R).count (handed_out R).path) (last_of last)
  last-after true = refl
  last-after false = refl

  few-after : (b : Bool) → (handed_out R).count ≤ 17 → last.count ≤ 17 → (last_path_after b R last).count ≤ 17
  few-after true f g = f
  few-after false f g = g

five_long : (a : Result PathAnswer Refusal) → length (five_of (numbers_of_path a)) ≡ 5
five_long (Ok (Found n x y)) = refl
five_long (Ok NoPath) = refl
five_long (Ok End) = refl
five_long (Err x) = refl

module _ (r : Request) (kinds sizes buffers₀ numbers₀ buffers numbers : List ℕ) (last : LastPath) (at j : ℕ)
    (formed : Formed kinds sizes (length buffers₀) (length numbers₀))
    (so_far : Progress r kinds sizes buffers₀ numbers₀ buffers numbers last at j)
    (h : j < length kinds)
  where
    abbrev size : ℕ
    size = get_or sizes j 0

    left_sum : sum (drop j sizes) ≡ size + sum (drop (j + 1) sizes)
    left_sum = sum_here sizes j (omega (arith, formed.as_many))

    -- the call's buffer lies inside, and its numbers do
    pub room_here : at + size ≤ length buffers
    room_here = omega (arith, left_sum, so_far.reach, so_far.buffers-long)

    pub numbers_here : 5 * j + 5 ≤ length numbers
    numbers_here = omega (arith, formed.five, so_far.numbers-long)

    module _ (R : Result PathReply Refusal) (by : ReplyIs (call_outcome r (last_of last) (kind_of (get_or kinds j 0)) size) size R) where
      abbrev reply : Reply
      reply = record { numbers = numbers_of_path (answer_of R); buffer = over (take (handed_out R).count (handed_out R).path) (take size (drop at buffers)) }

      -- the path that the run gives a next behind this call
      abbrev given : List ℕ
      given = last_after (eqb (numbers_of_path (answer_of R)).answer 0) (take (handed_out R).count (handed_out R).path) (last_of last)

      replies_here : run r (last_of last) (calls_from kinds sizes j at buffers)
          ≡ reply ∷ run r given (calls_of (drop (suc j) kinds) (drop (suc j) sizes) (drop size (drop at buffers)))
      replies_here =
          ap (run r (last_of last)) (calls_here kinds sizes buffers j at h (omega (arith, formed.as_many)))
          ∙ run_here r (last_of last) (record { kind = kind_of (get_or kinds j 0); buffer = take size (drop at buffers) })
          (calls_of (drop (suc j) kinds) (drop (suc j) sizes) (drop size (drop at buffers))) size R
          (length-take-le size (drop at buffers) (rw length-drop (omega (arith, room_here)))) by

      module _ (number : ℕ) (buffers' numbers' : List ℕ) (last' : LastPath)
          (put : ReplyPut R buffers at numbers j number buffers' numbers')
          (kept : last' ≡ last_path_after (eqb number 0) R last)
        where
          last-is : last_of last' ≡ given
          last-is =
              ap last_of kept
              ∙ last-after R last (eqb number 0)
              ∙ ap (λ (n : ℕ). last_after (eqb n 0) (take (handed_out R).count (handed_out R).path) (last_of last)) put.number_is

          abbrev rest : List Reply
          rest = run r (last_of last') (calls_from kinds sizes (j + 1) (at + size) buffers')

          replies_now : run r (last_of last) (calls_from kinds sizes j at buffers) ≡ reply ∷ rest
          replies_now =
              replies_here
              ∙ ap₂ (λ (g b : List ℕ). reply ∷ run r g (calls_of (drop (suc j) kinds) (drop (suc j) sizes) b)) (sym last-is)
              (sym (ap (drop (at + size)) put.in_buffers ∙ pasted_drop buffers (handed_out R).path at (handed_out R).count size room_here (said _ size R by).fits (omega (arith, (said _ size R by).few, (said _ size R by).long))))
              ∙ ap (λ (k : ℕ). reply ∷ run r (last_of last') (calls_from kinds sizes k (at + size) buffers')) (sym (add-one j))

          buffers_now : take (at + size) buffers' ++ each buffer_of rest ≡ take at buffers ++ each buffer_of (run r (last_of last) (calls_from kinds sizes j at buffers))
          unfolding each
          buffers_now =
              ap (λ (l : List ℕ). l ++ each buffer_of rest)
              (ap (take (at + size)) put.in_buffers ∙ pasted_take buffers (handed_out R).path at (handed_out R).count size room_here (said _ size R by).fits (omega (arith, (said _ size R by).few, (said _ size R by).long)))
              ∙ append_assoc (take at buffers) (buffer_of reply) (each buffer_of rest)
              ∙ ap (λ (xs : List Reply). take at buffers ++ each buffer_of xs) (sym replies_now)

          abbrev F : List ℕ
          F = five_of (numbers_of_path (answer_of R))

          five : length F ≡ 5
          five = five_long (answer_of R)

          five_over : over (take 5 F) (take 5 (drop (5 * j) numbers)) ≡ F
          unfolding over
          five_over =
              let whole : take 5 F ≡ F = take_all 5 F (omega (arith, five)) in
              ap (λ (w : List ℕ). w ++ drop (length w) (take 5 (drop (5 * j) numbers))) whole
              ∙ ap (λ (k : ℕ). F ++ drop k (take 5 (drop (5 * j) numbers))) five
              ∙ ap (λ (l : List ℕ). F ++ l) (slice_empty 5 (drop (5 * j) numbers))
              ∙ append-nil F

          more : 5 * (j + 1) ≡ 5 * j + 5
          more = omega arith

          numbers_now : take (5 * (j + 1)) numbers' ++ each numbers_of rest ≡ take (5 * j) numbers ++ each numbers_of (run r (last_of last) (calls_from kinds sizes j at buffers))
          unfolding each
          numbers_now =
              ap (λ (l : List ℕ). l ++ each numbers_of rest)
              (ap₂ (λ (k : ℕ) (l : List ℕ). take k l) more put.in_numbers
              ∙ pasted_take numbers F (5 * j) 5 5 numbers_here (omega arith) (omega (arith, five))
              ∙ ap (λ (l : List ℕ). take (5 * j) numbers ++ l) five_over)
              ∙ append_assoc (take (5 * j) numbers) F (each numbers_of rest)
              ∙ ap (λ (xs : List Reply). take (5 * j) numbers ++ each numbers_of xs) (sym replies_now)

          behind_now : drop (5 * (j + 1)) numbers' ≡ drop (5 * (j + 1)) numbers₀
          behind_now =
              ap₂ (λ (k : ℕ) (l : List ℕ). drop k l) more put.in_numbers
              ∙ pasted_drop numbers F (5 * j) 5 5 numbers_here (omega arith) (omega (arith, five))
              ∙ ap (drop 5) so_far.behind
              ∙ drop-drop 5 (5 * j) numbers₀
              ∙ ap (λ (k : ℕ). drop k numbers₀) (sym more)

          pub turn : Progress r kinds sizes buffers₀ numbers₀ buffers' numbers' last' (at + size) (j + 1)
          turn =
              record {
                within = omega arith;
                few = rw kept (few-after R last (eqb number 0) (said _ size R by).few so_far.few);
                reach = omega (arith, left_sum, so_far.reach);
                buffers-long = ap length put.in_buffers ∙ length-paste buffers at (handed_out R).path (handed_out R).count (omega (arith, room_here, (said _ size R by).fits)) (omega (arith, (said _ size R by).few, (said _ size R by).long)) ∙ so_far.buffers-long;
                numbers-long = ap length put.in_numbers ∙ length-paste numbers (5 * j) F 5 numbers_here (omega (arith, five)) ∙ so_far.numbers-long;
                in_buffers = buffers_now ∙ so_far.in_buffers;
                in_numbers = numbers_now ∙ so_far.in_numbers;
                behind = behind_now;
              }

-- ---- after the last call

module _ (r : Request) (kinds sizes buffers₀ numbers₀ buffers numbers : List ℕ) (last : LastPath) (at j : ℕ)
    (formed : Formed kinds sizes (length buffers₀) (length numbers₀))
    (so_far : Progress r kinds sizes buffers₀ numbers₀ buffers numbers last at j)
    (h : length kinds ≤ j)
  where
    none_left : run r (last_of last) (calls_from kinds sizes j at buffers) ≡ []
    unfolding run calls_of
    none_left = ap (λ (ks : List ℕ). run r (last_of last) (calls_of ks (drop j sizes) (drop at buffers))) (drop_of_length-le kinds h)

    all_buffers : take at buffers ≡ each buffer_of (run r [] (calls_of kinds sizes buffers₀))
    unfolding each
    all_buffers = sym (append-nil (take at buffers)) ∙ ap (λ (xs : List Reply). take at buffers ++ each buffer_of xs) (sym none_left) ∙ so_far.in_buffers

    all_numbers : take (5 * j) numbers ≡ each numbers_of (run r [] (calls_of kinds sizes buffers₀))
    unfolding each
    all_numbers = sym (append-nil (take (5 * j) numbers)) ∙ ap (λ (xs : List Reply). take (5 * j) numbers ++ each numbers_of xs) (sym none_left) ∙ so_far.in_numbers

    numbers-end : length (take (5 * j) numbers) ≡ 5 * j
    numbers-end = length-take-le (5 * j) numbers (omega (arith, formed.five, so_far.numbers-long, so_far.within))

    pub done : Left (run r [] (calls_of kinds sizes buffers₀)) numbers₀ buffers numbers
    unfolding over
    done =
        record {
          in_buffers = sym (take_all at buffers (omega (arith, sum_none sizes j (omega (arith, formed.as_many)), so_far.reach, so_far.buffers-long))) ∙ all_buffers;
          in_numbers =
              sym (take-append-drop (5 * j) numbers)
              ∙ ap (λ (l : List ℕ). take (5 * j) numbers ++ l) (so_far.behind ∙ ap (λ (k : ℕ). drop k numbers₀) (sym numbers-end))
              ∙ ap (λ (w : List ℕ). w ++ drop (length w) numbers₀) all_numbers;
        }
