-- The calls through a PCReq whose frame passes, alone or in a series, are the calls on the lists and numbers that it carries; so the series' claim holds
-- through it. By putting the frame's verdict in its place, and recursion on the calls.
use Rattle.std.specs.Prelude.{Ok, Err}
use Prim.Native.Nat.{ℕ}
use mathlib.Core.Path.{◌≡◌, refl, ap, subst, ◌∙◌}
use mathlib.Core.Bool.{not, cond}
use mathlib.Core.List.{List, [], ◌∷◌, map}
use lib.ListN.{length}
use lib.Dec.{eqb}
use Rattle.model.specs.Verdict.{Verdict, Pass}
use Rattle.model.specs.declared.Refusal.{Refusal}
use Rattle.model.specs.Lists.{over}
use Rattle.model.specs.Request.{Request, limits_of_bits}
use Rattle.model.specs.Answers.{refused4}
use Rattle.model.specs.Calls as Calls
use Rattle.model.specs.Calls.{Outcome, nothing, build_tree}
use Rattle.model.specs.Series.{Kind, first_call, next_call, Call, Reply, reply_to, refused_call, call_outcome, last_after, replies, run}
use Rattle.laws.proofs.BigEndian.{Bytes}
use Rattle.laws.proofs.Claims.{series-replies}
use Rattle.pcep_model.specs.declared.MessageKind.TheVariants.{Pcreq}
use Rattle.pcep_model.specs.Objects.{message_verdict}
use Rattle.pcep_model.specs.Metrics.{value_at, wrong_metric, bound_metric}
use Rattle.pcep_model.specs.Pcreq.{source_of, destination_of, bits_at, bandwidth_of, include_extent, exclude_extent, list_in, carried_limits, carried, behind, pcreq_tree, pcreq_first, pcreq_next, pcreq_call, pcreq_run}
pub use Rattle.pcep_laws.proofs.GivenRequest.{given_limits, given_request}

-- ---- the request that a PCReq stands for where no METRIC is out of range: the bound is the first METRIC with B set

-- it is the one that is carried then
limits-given : (s : List ℕ) → wrong_metric s ≡ 0 → carried_limits s ≡ given_limits s
limits-given s none =
    ap (λ (at : ℕ). limits_of_bits (bandwidth_of s) (not (eqb at 0)) (bits_at at (value_at s at))) (ap (λ (w : ℕ). cond (eqb w 0) (bound_metric s) w) none)

pub carried-given : (profile : List ℕ) (ingress : ℕ) (s : List ℕ) → wrong_metric s ≡ 0 → carried profile ingress s ≡ given_request profile ingress s
carried-given profile ingress s none =
    λ k. record {
      profile = profile;
      ingress = ingress;
      source = source_of s;
      destination = destination_of s;
      include = list_in s (include_extent s);
      exclude = list_in s (exclude_extent s);
      limits = limits-given s none k;
    }

-- ---- the calls through a PCReq are those on a request: the three calls, and a series of them

pub record IsRequest (profile : List ℕ) (ingress : ℕ) (s : List ℕ) (r : Request) : Type 0 where
  pub tree : (room : ℕ) → pcreq_tree profile ingress s room ≡ build_tree r room
  pub first : (room : ℕ) → pcreq_first profile ingress s room ≡ Calls.first r room
  pub next : (given : List ℕ) (room : ℕ) → pcreq_next profile ingress s given room ≡ Calls.next r given room
  pub series : (last : List ℕ) (calls : List Call) → pcreq_run profile ingress s last calls ≡ run r last calls

module _ (profile : List ℕ) (ingress : ℕ) (s : List ℕ) where
  -- a call's reply, and the series after it
  run_call
      : (last : List ℕ) (c : Call) (cs : List Call) (o : Outcome ℕ)
      → pcreq_call profile ingress s last c.kind (length c.buffer) ≡ o
      → pcreq_run profile ingress s last (c ∷ cs) ≡ reply_to c o ∷ pcreq_run profile ingress s (last_after (eqb o.numbers.answer 0) o.written last) cs
  unfolding pcreq_run
  run_call last c cs o e =
      ap (λ (x : Outcome ℕ). reply_to c x ∷ pcreq_run profile ingress s (last_after (eqb x.numbers.answer 0) x.written last) cs) e

  module _ (passes : message_verdict Pcreq s ≡ Pass) where
    call-carried
        : (last : List ℕ) (kind : Kind) (room : ℕ)
        → pcreq_call profile ingress s last kind room ≡ call_outcome (carried profile ingress s) last kind room
    unfolding pcreq_first pcreq_next
    call-carried last first_call room = ap (λ (v : Verdict). behind v (Calls.first (carried profile ingress s) room)) passes
    call-carried last next_call room = ap (λ (v : Verdict). behind v (Calls.next (carried profile ingress s) last room)) passes

    series-carried : (last : List ℕ) (calls : List Call) → pcreq_run profile ingress s last calls ≡ run (carried profile ingress s) last calls
    unfolding pcreq_run run
    series-carried last [] = refl
    series-carried last (c ∷ cs) =
        let o = call_outcome (carried profile ingress s) last c.kind (length c.buffer) in
        run_call last c cs o (call-carried last c.kind (length c.buffer))
        ∙ ap {B = List Reply} (λ (rest : List Reply). reply_to c o ∷ rest) (series-carried (last_after (eqb o.numbers.answer 0) o.written last) cs)

    pub pcreq-is-carried : IsRequest profile ingress s (carried profile ingress s)
    unfolding pcreq_tree
    pcreq-is-carried =
        record {
          tree = λ room. ap (λ (v : Verdict). behind v (build_tree (carried profile ingress s) room)) passes;
          first = λ room. call-carried [] first_call room;
          next = λ given room. call-carried given next_call room;
          series = series-carried;
        }

    pub pcreq-is-request : wrong_metric s ≡ 0 → IsRequest profile ingress s (given_request profile ingress s)
    pcreq-is-request none = subst (IsRequest profile ingress s) (carried-given profile ingress s none) pcreq-is-carried

  -- ---- a frame that is refused: each call gives its refusal and leaves the buffer as it is

  call_refused : (x : Refusal) → message_verdict Pcreq s ≡ Err x → (last : List ℕ) (kind : Kind) (room : ℕ) → pcreq_call profile ingress s last kind room ≡ nothing (refused4 x)
  unfolding pcreq_first pcreq_next
  call_refused x e last first_call room = ap (λ (v : Verdict). behind v (Calls.first (carried profile ingress s) room)) e
  call_refused x e last next_call room = ap (λ (v : Verdict). behind v (Calls.next (carried profile ingress s) last room)) e

  series-refused : (x : Refusal) → message_verdict Pcreq s ≡ Err x → (last : List ℕ) (calls : List Call) → pcreq_run profile ingress s last calls ≡ map (refused_call x) calls
  unfolding pcreq_run over
  series-refused x e last [] = refl
  series-refused x e last (c ∷ cs) =
      run_call last c cs (nothing (refused4 x)) (call_refused x e last c.kind (length c.buffer))
      ∙ ap {B = List Reply} (λ (rest : List Reply). refused_call x c ∷ rest) (series-refused x e (last_after (eqb x.number 0) [] last) cs)

-- ---- so the series' claim holds through it: document 01's book, or each call its refusal, 36 to 40 of the frame or that of the request

abbrev pub pcreq_replies : Verdict → Request → List Call → List Reply
pcreq_replies (Ok _) r calls = replies r calls
pcreq_replies (Err x) r calls = map (refused_call x) calls

pub pcreq-series
    : (profile : List ℕ) (ingress : ℕ) (s : List ℕ)
    → Bytes profile
    → (calls : List Call) → pcreq_run profile ingress s [] calls ≡ pcreq_replies (message_verdict Pcreq s) (carried profile ingress s) calls
pcreq-series profile ingress s bytes calls = go (message_verdict Pcreq s) refl
  where
    go : (v : Verdict) → message_verdict Pcreq s ≡ v → pcreq_run profile ingress s [] calls ≡ pcreq_replies v (carried profile ingress s) calls
    go (Ok _) e = series-carried profile ingress s e [] calls ∙ series-replies (carried profile ingress s) bytes calls
    go (Err x) e = series-refused profile ingress s x e [] calls
