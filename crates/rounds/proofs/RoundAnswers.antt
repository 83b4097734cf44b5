-- Laws for the answers of a round in code: what the appending stage and the whole round come to. Assumes nothing.
use mathlib.Core.Path.{◌≡◌, refl, sym, ap, ◌∙◌, subst}
use mathlib.Core.List.{List, [], ◌∷◌, append_assoc}
use Prim.Native.Nat.{ℕ, zero, suc, ◌+◌, ◌-◌, ◌<◌}
use native.Mathlib.Omega.{arith}
use borrow.Author.Rules.{rules}
use lib.ListN.{length}
use Rattle.parse_tree.specs.Plain.Tree.{Item, Stage}
use Rattle.parse_tree.specs.Working.Refusals.{refusal_over}
use Rattle.parse_tree.specs.declared.refusal.Refusal.{Refusal}
use Rattle.parse_tree.specs.declared.syntax.Span.{Span}
use Rattle.texts.specs.Atoms.{some_long}
use Rattle.passes.specs.Outcome.{Outcome, yes, no, after}
use Rattle.passes.specs.Macros.{Pending, drain}
use Rattle.passes.specs.Calls.{sizes}
use Rattle.resolve.specs.declared.Grammar.{Grammar}
use Rattle.expander.specs.Names.{listed_texts}
use Rattle.settling.specs.Settle.{new_bytes}
use Rattle.appending.specs.declared.Appended.{Appended}
use Rattle.std.specs.Prelude.{Result, Ok, Err}
use Rattle.std.specs.declared.ops.ControlFlow.TheVariants.{Continue, Break}
use Rattle.rounds.specs.declared.Room.{Room}
use Rattle.rounds.specs.declared.State.{State}
use Rattle.rounds.specs.declared.round.Half.{Half}
use Rattle.rounds.specs.Judge.{Verdict, verdict, admitted}
use Rattle.rounds.specs.Start.{at_start, replaced_by}
use Rattle.rounds.specs.Step.{RoundOutput, done, more, append_items, pending_round}
use Rattle.rounds.specs.Standing.{RoundTrees, RoundStands}
use Rattle.rounds.specs.Round.{pending_of, replaced_stage, appended_stage, next_trees, Halfway, finished_state, SomeHalf, SomePending, Fine, Drained, DrainedTo, DrainsPile, SomeAppended, trees_in, Sizeable, stage_verdict, SomeDrained, Next, SettlesRound, Further, RoundTo, next_input, another, AnswersItems, AppendsRound, AnswersHalf}
use Rattle.rounds.proofs.RoundStages.{drained_without, admitted-fine, admitted-no}
use Rattle.rounds.proofs.RoundPlaces as places
use Rattle.rounds.proofs.RoundHalf as halves
use Rattle.rounds.proofs.Tally as tally
use Rattle.rounds.proofs.RoundJudged as judges
use Rattle.rounds.proofs.RoundAppended as appended

-- a refusal by its number and its place
pub refused-over : (why : Refusal) → why ≡ refusal_over why.number (record { 0 = why.from; 1 = why.to })
unfolding refusal_over
refused-over why = refl

-- ---- what draining came to, by the answer
abbrev IsIs : Result Appended Refusal → Type 0
IsIs (Ok v) = Unit {0}
IsIs (Err why) = ⊥

abbrev appended_in : Appended → Result Appended Refusal → Appended
appended_in v (Ok x) = x
appended_in v (Err why) = v

abbrev refusal_in : Refusal → Result Appended Refusal → Refusal
refusal_in y (Ok x) = y
refusal_in y (Err why) = why

pub record Items (s w : List ℕ) (room : Room) (t : Grammar) (z : State) (T : RoundTrees) (h : Half) (ground : List ℕ) (v : Appended) (w1 : List ℕ) : Type 0 where
  pub new : List Item
  pub is : drain T.definitions (pending_of T) ≡ yes new
  pub drained : Drained s w room t z T h ground new v w1

module _ (s w : List ℕ) (room : Room) (t : Grammar) (z : State) (T : RoundTrees) (h : Half) (ground : List ℕ) (r : Result Appended Refusal) (w1 : List ℕ) where
  items_given : (v : Appended) → r ≡ Ok v → (o : Outcome (List Item)) → drain T.definitions (pending_of T) ≡ o → DrainedTo s w room t z T h ground o r w1 → Items s w room t z T h ground v w1
  unfolding DrainedTo
  items_given v e (yes new) f (u, i, d) =
      let k : u ≡ v = ap (appended_in v) (sym i ∙ e) in
      record { new = new; is = f; drained = subst (λ (x : Appended). Drained s w room t z T h ground new x w1) k d }
  items_given v e (no n sp) f d = absurd (subst IsIs (sym e ∙ d) tt)

  refused_given : (why : Refusal) → r ≡ Err why → (o : Outcome (List Item)) → DrainedTo s w room t z T h ground o r w1 → (n : ℕ) × (sp : Span) × (o ≡ no n sp) × (why ≡ refusal_over n sp)
  unfolding DrainedTo
  refused_given why e (yes new) (u, i, d) = absurd (subst IsIs (sym i ∙ e) tt)
  refused_given why e (no n sp) d = (n, sp, refl, ap (refusal_in why) (sym e ∙ d))

-- ---- stage_size
pub sized_so : (s w : List ℕ) (room : Room) (z : State) (h : Half) (v : Appended) (q : Verdict)
    → q ≡ verdict (h.g.m.count + v.count) (some_long (listed_texts s w h.g v.count)) v.deep (room.first + (room.end - z.low) + (v.to - room.y) + length (new_bytes s w h.g v.count)) room.cap → q ≡ stage_verdict s w room z h v
unfolding stage_verdict
sized_so s w room z h v q e = e

pub ruleset sized = (rules, sized_so)

-- ---- answer_items: w is work after appending
module _ (s w : List ℕ) (room : Room) (t : Grammar) (z : State) (h : Half) (v : Appended) where
  abbrev verdict_all : Verdict
  verdict_all = stage_verdict s w room z h v

  module _ (I : SomeAppended s w room t z h v) where
    abbrev P : SomePending s I.before room t z h
    P = I.pending

    abbrev A : SomeHalf s I.before room t z h
    A = I.pending.half

    judged : sizes 2 room.cap (appended_stage (trees_in I) I.new) ≡ admitted verdict_all (appended_stage (trees_in I) I.new)
    unfolding stage_verdict
    judged = appended.judged-all s A.work room t z A.trees A.standing h I.before A.halfway P.pushed P.admitted I.new v w I.drained

    pub items_ask : Sizeable s w room z h v
    items_ask = record {
      past = omega (arith, places.low-is s A.work room t z A.trees A.standing);
      items = omega (arith, appended.to_on s A.work room t z A.trees A.standing h I.before A.halfway P.pushed P.admitted I.new v w I.drained, (halves.items_lie s A.work room t z A.trees A.standing h I.before A.halfway).end);
      size = appended.ask_all s A.work room t z A.trees A.standing h I.before A.halfway P.pushed P.admitted I.new v w I.drained;
    }

    fine : (q : Verdict) → q ≡ verdict_all → (u : Unit {0}) → q ≡ Ok u → Fine room (appended_stage (trees_in I) I.new)
    fine q i u l = judged ∙ admitted-fine verdict_all (appended_stage (trees_in I) I.new) u (sym i ∙ l)

    pub items_settle : (q : Verdict) → q ≡ verdict_all → (u : Unit {0}) → q ≡ Ok u → SomeDrained s w room t z h v
    items_settle q i u l = record { items = I; admitted = fine q i u l }

    further : (x : State) (w2 : List ℕ) → Next s w2 room t x (trees_in I) I.new → Further s w2 room t x (trees_in I) (next_input (trees_in I) I.new (appended_stage (trees_in I) I.new))
    further x w2 n =
        let T = trees_in I in
        record {
          trees = next_trees T I.new n.more;
          definitions = refl;
          first = refl;
          rounds = refl;
          input = rw (drained_without T.definitions (pending_of T) I.new I.is, n.atoms, append_assoc T.first T.past n.more) refl;
          standing = n.standing;
        }

  pub items_refused : (f : Verdict) → f ≡ verdict_all → (why : Refusal) → f ≡ Err why → AnswersItems s w room t z h v (Err why) w
  unfolding AnswersItems RoundTo
  items_refused f i why l I =
      rw (judged I ∙ admitted-no verdict_all (appended_stage (trees_in I) I.new) why (sym i ∙ l)) (ap Err (refused-over why))

  pub items_more : (q : Verdict) → q ≡ verdict_all → (u : Unit {0}) → q ≡ Ok u → (x : State) (w2 : List ℕ) → SettlesRound s w room t z h v x w2 → AnswersItems s w room t z h v (Ok x) w2
  unfolding AnswersItems SettlesRound RoundTo
  items_more q i u l x w2 n I = rw (fine I q i u l) (x, refl, further I x w2 (n (record { items = I; admitted = fine I q i u l })))

pub ruleset answering_items = (rules, items_ask, items_settle, items_refused, items_more)

-- ---- append
module _ (s w : List ℕ) (room : Room) (t : Grammar) (z : State) (h : Half) (r : Result Appended Refusal) (w1 : List ℕ) (d : DrainsPile s w room t z h r w1) where
  module _ (v : Appended) (e : r ≡ Ok v) where
    given : (K : SomePending s w room t z h) → Items s w room t z K.half.trees h K.half.halfway.middle v w1
    unfolding DrainsPile
    given K =
        let A = K.half in
        let T = A.trees in
        items_given s w room t z T h A.halfway.middle r w1 v e (drain T.definitions (pending_of T)) refl (d A.work T A.standing A.halfway K.pushed K.admitted)

    pub append_items_lem : SomePending s w room t z h → SomeAppended s w1 room t z h v
    append_items_lem K = let g = given K in record { before = w; pending = K; new = g.new; is = g.is; drained = g.drained }

    pub append_yes : (x : Result State Refusal) (w2 : List ℕ) → AnswersItems s w1 room t z h v x w2 → AppendsRound s w room t z h x w2
    unfolding AppendsRound AnswersItems
    append_yes x w2 a work T S H p f =
        let K : SomePending s w room t z h = record { half = record { work = work; trees = T; standing = S; halfway = H }; pushed = p; admitted = f } in
        let g = given K in
        subst (λ (o : Outcome (List Item)). RoundTo s room t T (after o (λ new. after (sizes 2 room.cap (appended_stage T new)) (λ k. yes (more (next_input T new k))))) (another x) w2) (sym g.is)
        (a (record { before = w; pending = K; new = g.new; is = g.is; drained = g.drained }))

  pub append_no : (why : Refusal) → r ≡ Err why → AppendsRound s w room t z h (Err why) w1
  unfolding AppendsRound DrainsPile RoundTo
  append_no why e work T S H p f =
      let (n, sp, i, j) = refused_given s w room t z T h H.middle r w1 why e (drain T.definitions (pending_of T)) (d work T S H p f) in
      rw i (ap Err j)

pub ruleset appending = (rules, append_items_lem, append_yes, append_no)

-- ---- go_on: w is work after replacing
module _ (s w : List ℕ) (room : Room) (t : Grammar) (z : State) (h : Half) where
  abbrev verdict_half : Verdict
  verdict_half = stage_verdict s w room z h (at_start h.r)

  pub on_ask : SomeHalf s w room t z h → (v : Appended) → v ≡ at_start h.r → Sizeable s w room z h v
  on_ask K v e = rw e (record {
    past = omega (arith, places.low-is s K.work room t z K.trees K.standing);
    items = omega (arith, (halves.items_lie s K.work room t z K.trees K.standing h w K.halfway).end);
    size = judges.ask_half s K.work room t z K.trees K.standing h w K.halfway;
  })

  -- of what appending begins with
  pub on_verdict : (v : Appended) → v ≡ at_start h.r → (q : Verdict) → q ≡ stage_verdict s w room z h v → q ≡ verdict_half
  on_verdict v e q i = i ∙ ap (λ (x : Appended). stage_verdict s w room z h x) e

  module _ (work : List ℕ) (T : RoundTrees) (S : RoundStands s work room t z T) (H : Halfway s work room t z h w) where
    judged-half : sizes 2 room.cap (replaced_stage T) ≡ admitted verdict_half (replaced_stage T)
    unfolding stage_verdict
    judged-half = judges.judged-half s work room t z T S h w H

    count-is : length (pending_of T) ≡ h.r.pile
    count-is = tally.count-is s work room t z h w H T S

    pub half_fine : (q : Verdict) → q ≡ verdict_half → (u : Unit {0}) → q ≡ Ok u → Fine room (replaced_stage T)
    half_fine q i u l = judged-half ∙ admitted-fine verdict_half (replaced_stage T) u (sym i ∙ l)

    abbrev append : Stage → Outcome RoundOutput
    append = append_items (sizes 2 room.cap) T.definitions T.old (replaced_by T.items T.keys)

    -- the same whatever is pending, where the stage is refused
    refused_either : (xs : List Pending) (n : ℕ) (sp : Span) → pending_round xs (no n sp) append ≡ no n sp
    refused_either [] n sp = refl
    refused_either (x ∷ xs) n sp = refl

    none_pending : (xs : List Pending) → length xs ≡ 0 → pending_round xs (yes (replaced_stage T)) append ≡ yes (done (replaced_stage T))
    none_pending [] e = refl
    none_pending (x ∷ xs) e = absurd (omega (arith, e))

    some_pending : (xs : List Pending) → (length xs ≡ 0 → ⊥) → pending_round xs (yes (replaced_stage T)) append ≡ append (replaced_stage T)
    some_pending [] e = absurd (e refl)
    some_pending (x ∷ xs) e = refl

  module _ (f : Verdict) (i : f ≡ verdict_half) where
    pub half_refused : (why : Refusal) → f ≡ Err why → (work : List ℕ) (T : RoundTrees) → RoundStands s work room t z T → Halfway s work room t z h w
        → sizes 2 room.cap (replaced_stage T) ≡ no why.number (record { 0 = why.from; 1 = why.to })
    half_refused why l work T S H = judged-half work T S H ∙ admitted-no verdict_half (replaced_stage T) why (sym i ∙ l)

    on_refused : (why : Refusal) → f ≡ Err why → AnswersHalf s w room t z h (Err why) w
    unfolding AnswersHalf RoundTo
    on_refused why l work T S H =
        rw (half_refused why l work T S H, refused_either work T S H (pending_of T) why.number (record { 0 = why.from; 1 = why.to })) (ap Err (refused-over why))

    on_done : (u : Unit {0}) → f ≡ Ok u → h.expander.height ≡ 0 → (x : State) → x ≡ finished_state z h → AnswersHalf s w room t z h (Ok (Break x)) w
    unfolding AnswersHalf RoundTo
    on_done u l e x j work T S H =
        let a = half_fine work T S H f i u l in
        let n : h.r.pile ≡ 0 = sym (tally.height_is s work room t z h w H) ∙ e in
        rw (a, none_pending work T S H (pending_of T) (count-is work T S H ∙ n)) (finished_state z h, ap (λ (y : State). Ok (Break y)) j, judges.last-stands s work room t z T S h w H n a)

    on_append : SomeHalf s w room t z h → (u : Unit {0}) → f ≡ Ok u → (h.expander.height ≡ 0 → ⊥) → SomePending s w room t z h
    on_append K u l e = record { half = K; pushed = go h.r.pile (λ n. e (tally.height_is s K.work room t z h w K.halfway ∙ n)); admitted = half_fine K.work K.trees K.standing K.halfway f i u l }
      where
        go : (n : ℕ) → (n ≡ 0 → ⊥) → 0 < n
        go zero f = absurd (f refl)
        go (suc n) f = omega arith

    on_more : (u : Unit {0}) → f ≡ Ok u → (h.expander.height ≡ 0 → ⊥) → (x : Result State Refusal) (w2 : List ℕ) → AppendsRound s w room t z h x w2 → AnswersHalf s w room t z h (another x) w2
    unfolding AnswersHalf AppendsRound
    on_more u l e x w2 a work T S H =
        let b = half_fine work T S H f i u l in
        let p = (on_append (record { work = work; trees = T; standing = S; halfway = H }) u l e).pushed in
        rw (b, some_pending work T S H (pending_of T) (λ k. e (tally.height_is s work room t z h w H ∙ sym (count-is work T S H) ∙ k))) (a work T S H p b)

  -- ---- as the code has it: f is what `stage_size` answered of v
  module _ (v : Appended) (e : v ≡ at_start h.r) (f : Verdict) (i : f ≡ stage_verdict s w room z h v) where
    pub going_refused : (why : Refusal) → f ≡ Err why → AnswersHalf s w room t z h (Err why) w
    going_refused = on_refused f (on_verdict v e f i)

    pub going_done : (u : Unit {0}) → f ≡ Ok u → h.expander.height ≡ 0 → (x : State) → x ≡ finished_state z h → AnswersHalf s w room t z h (Ok (Break x)) w
    going_done = on_done f (on_verdict v e f i)

    pub going_append : SomeHalf s w room t z h → (u : Unit {0}) → f ≡ Ok u → (h.expander.height ≡ 0 → ⊥) → SomePending s w room t z h
    going_append = on_append f (on_verdict v e f i)

    module _ (u : Unit {0}) (l : f ≡ Ok u) (n : h.expander.height ≡ 0 → ⊥) (x : Result State Refusal) (w2 : List ℕ) (a : AppendsRound s w room t z h x w2) where
      pub going_more : (y : State) → x ≡ Ok y → AnswersHalf s w room t z h (Ok (Continue y)) w2
      going_more y j = subst (λ (k : Result State Refusal). AnswersHalf s w room t z h (another k) w2) j (on_more f (on_verdict v e f i) u l n x w2 a)

      pub going_no : (why : Refusal) → x ≡ Err why → AnswersHalf s w room t z h (Err why) w2
      going_no why j = subst (λ (k : Result State Refusal). AnswersHalf s w room t z h (another k) w2) j (on_more f (on_verdict v e f i) u l n x w2 a)

pub ruleset going_on = (rules, on_ask, going_refused, going_done, going_append, going_more, going_no)
