-- Laws of `replace_items`: turn by turn the run of the definition, with what it wrote behind what was written. Assumes nothing.
use mathlib.Core.Path.{◌≡◌, refl, sym, ap, ◌∙◌, subst}
use mathlib.Core.Bool.{Bool, true, false}
use mathlib.Core.Logic.{inl, inr}
use mathlib.Core.List.{List, [], ◌++◌, append-nil, append_assoc}
use mathlib.Core.Option.{Option}
use Prim.Native.Nat.{ℕ, zero, suc, ◌+◌, ◌-◌, ◌*◌, ◌<◌, ◌≤◌}
use native.Mathlib.Omega.{arith}
use borrow.Author.Rules.{rules}
use lib.Dec.{leb}
use lib.ListN.{length, get_or}
use Rattle.octets.specs.Plain.Runs.{Lies}
use Rattle.octets.specs.Working.Choice.{pick}
use Rattle.octets.proofs.LiesLaws.{lies_none, lies_append, lies_part, part_lies}
use Rattle.parse_tree.specs.Plain.Tree.{Text}
use Rattle.parse_tree.specs.Plain.Reading.{Reading, got, refused}
use Rattle.parse_tree.specs.Working.Nodes.{node_at}
use Rattle.texts.specs.Fields.{mark_at}
use Rattle.texts.specs.Table.{Above, texts}
use Rattle.texts.specs.Texts.{Behind}
use Rattle.texts.proofs.TableStays.{le_at-agree, part-agree}
use Rattle.replacing.specs.Prints.{same_print, text_is}
use Rattle.replacing.specs.Round.{replaced}
use Rattle.replacing.specs.Runs.{plain, is_macro, Run, copy_step, key_by, skip_step, step_on, steps, started}
use Rattle.replacing.specs.Slots.{Slots, places}
use Rattle.replacing.proofs.Going.{run, steps_append, steps_end}
use Rattle.expander.specs.declared.Ground.{Ground}
use Rattle.expander.specs.declared.stage.Replaced.{Replaced}
use Rattle.expander.specs.Ground.{size_in, stage_in, top_of, list_place, same_at, text_in, Grounded}
use Rattle.expander.specs.Held.{Held, AllBefore}
use Rattle.expander.specs.Stage.{Writable, WroteOnly, SomeTurn, stepped, turned, Turns, SomeStage, MarksAre, StagedBy, Stages}
use Rattle.expander.proofs.GroundLaws.{list_start}
use Rattle.expander.proofs.HeldStays.{wrote_then, stage_wrote, texts-wrote, grounded_wrote}
use Rattle.expander.proofs.StageReads.{stage_length}
use Rattle.expander.proofs.StageMeets.{room_upto}
use Rattle.expander.proofs.StageStart.{texts-many, start_before, start_held, some_marks, some_marks_lem}

-- ---- a turn behind what was written before
module _ (same : ℕ → ℕ → Bool) (at : ℕ → Option ℕ) (wd base : ℕ) (t : List ℕ) (p : ℕ) (o : List ℕ) (x : Slots) where
  abbrev behind : Run → Run
  behind r = run r.at (o ++ r.out) r.slots

  abbrev step_by : Bool → Bool → Bool → Reading (List ℕ) → Run → Run
  step_by a b c ps r = pick a r (pick b (skip_step same at wd base t r) (pick c (copy_step same at wd base t r) (key_by same at wd base t ps r)))

  same_run : run p o x ≡ run p (o ++ []) x
  same_run = ap (λ (l : List ℕ). run p l x) (sym (append-nil o))

  by_behind : (a b c : Bool) (ps : Reading (List ℕ)) → step_by a b c ps (run p o x) ≡ behind (step_by a b c ps (run p [] x))
  unfolding pick skip_step copy_step key_by
  by_behind true b c ps = same_run
  by_behind false true c ps = ap (λ (l : List ℕ). record { at = (skip_step same at wd base t (run p [] x)).at; out = l; slots = x }) (sym (append-nil o))
  by_behind false false true ps = refl
  by_behind false false false (got ps e) = refl
  by_behind false false false (refused k q) = same_run

  step-behind : step_on same at wd base t (run p o x) ≡ behind (step_on same at wd base t (run p [] x))
  unfolding step_on
  step-behind = by_behind (leb (length t) p) (is_macro (node_at wd t p)) (plain (node_at wd t p)) (places wd t 64 p)

-- and so turns
module _ (same : ℕ → ℕ → Bool) (at : ℕ → Option ℕ) (wd base : ℕ) (t : List ℕ) where
  steps_behind : (n p : ℕ) (o : List ℕ) (x : Slots)
      → steps same at wd base t n (run p o x) ≡ run (steps same at wd base t n (run p [] x)).at (o ++ (steps same at wd base t n (run p [] x)).out) (steps same at wd base t n (run p [] x)).slots
  unfolding steps
  steps_behind zero p o x = ap (λ (l : List ℕ). run p l x) (sym (append-nil o))
  steps_behind (suc n) p o x =
      let r = step_on same at wd base t (run p [] x) in
      let z = steps same at wd base t n (run r.at [] r.slots) in
      ap (steps same at wd base t n) (step-behind same at wd base t p o x)
      ∙ steps_behind n r.at (o ++ r.out) r.slots
      ∙ ap (λ (l : List ℕ). run z.at l z.slots) (append_assoc o r.out z.out)
      ∙ sym (ap (λ (v : Run). run v.at (o ++ v.out) v.slots) (steps_behind n r.at r.out r.slots))

-- ---- what lies where nothing changed
lies_agree : (w w' : List ℕ) (a e : ℕ) (xs : List ℕ) → a ≤ e → e ≤ length w → length w' ≡ length w → ((i : ℕ) → a ≤ i → i < e → get_or w' i 0 ≡ get_or w i 0) → Lies w a xs e → Lies w' a xs e
lies_agree w w' a e xs l h n f z =
    subst (λ (v : List ℕ). Lies w' a v e) (part-agree w w' a e n h f ∙ lies_part w a e xs z) (part_lies w' a e l (omega arith))

-- the bound of the texts, from what was written back
above_back : (s w w' : List ℕ) (g : Ground) (a e z : ℕ) → WroteOnly g a e w w' → Above s w' g.m z → Above s w g.m z
unfolding mark_at
above_back s w w' g a e z k h = record { above = λ i l. subst (Behind s z) (mark i l) (h.above i l) }
  where
    mark : (i : ℕ) → i < g.m.count → mark_at w' g.m.base i ≡ mark_at w g.m.base i
    mark i l = le_at-agree 8 w w' (g.m.base + 24 * i) (λ j x y. k.others j (inl (omega (arith, list_start g))))

-- ---- the loop
abbrev begun : List ℕ → List ℕ → Ground → ℕ → List ℕ → Run
begun s w g n ms = stepped s w g n (run 0 [] (started ms))

-- of some marks: so many turns were done
pub record Sofar (s w₀ : List ℕ) (g : Ground) (to : ℕ) (ms w : List ℕ) (r : Replaced) : Type 0 where
  pub turns : ℕ
  pub few : turns ≤ r.at
  pub out : List ℕ
  pub slots : Slots
  pub is : begun s w₀ g turns ms ≡ run r.at out slots
  pub lies : Lies w to out r.to
  pub held : Held s w g r.pile r.count slots
  pub before : AllBefore r.at slots

pub record Staging (s w₀ : List ℕ) (g : Ground) (to : ℕ) (w : List ℕ) (r : Replaced) : Type 0 where
  pub ground : Grounded s w g
  pub stage : stage_in w g ≡ stage_in w₀ g
  pub names : texts s w g.m ≡ texts s w₀ g.m
  pub turn : SomeTurn s w g r
  pub top : top_of g ≤ to
  pub after : to ≤ r.to
  pub wrote : WroteOnly g to r.to w₀ w
  pub each : (ms : List ℕ) → MarksAre w₀ g ms → Sofar s w₀ g to ms w r

pub stage_start : (s w : List ℕ) (g : Ground) (to : ℕ) → Grounded s w g → SomeStage s w g to → Staging s w g to w (record { at = 0; to = to; pile = 0; count = 0 })
unfolding steps
stage_start s w g to G S = record {
  ground = G;
  stage = refl;
  names = refl;
  turn = record {
    turns = S.turns;
    left = S.left;
    walks = S.walks;
    upto = omega arith;
    list = subst (λ (k : ℕ). list_place g k ≤ g.keys) (let z : S.left ≡ 0 + S.left = omega arith in z) S.list;
    writable = subst (Writable s w g to) (let z : size_in g ≡ size_in g - 0 = omega arith in z) S.writable;
    few = omega arith;
    slots = started (some_marks w g);
    held = start_held s w g G S.empty (some_marks w g) (some_marks_lem w g);
    before = start_before (some_marks w g) 0;
  };
  top = S.writable.top;
  after = omega arith;
  wrote = record { long = refl; others = λ i d. refl };
  each = λ ms m. record {
    turns = 0;
    few = omega arith;
    out = [];
    slots = started ms;
    is = refl;
    lies = lies_none w to;
    held = start_held s w g G S.empty ms m;
    before = start_before ms 0;
  };
}

pub stage_below : (g : Ground) (p : ℕ) → p < g.end - g.from → p < size_in g
unfolding size_in
stage_below g p h = h

module _ (s w₀ : List ℕ) (g : Ground) (to : ℕ) (w : List ℕ) (r : Replaced) (c : Staging s w₀ g to w r) where
  pub stage_long : length w ≡ length w₀
  stage_long = c.wrote.long

  -- ---- a turn more
  module _ (q : Replaced) (w' : List ℕ) (T : Turns s w g r q w') where
    abbrev W : Writable s w g r.to (size_in g - r.at)
    W = c.turn.writable

    abbrev lim : ℕ
    lim = T.next.writable.lim

    above : Above s w g.m lim
    above = above_back s w w' g r.to q.to lim T.wrote T.next.writable.above

    low : q.to ≤ lim
    low = room_upto q.to ((9 + g.width.bytes) * (size_in g - q.at)) lim T.next.writable.room

    -- the turn is that of the stage as it was
    turn_is : (x : Slots) → turned s w g T.steps r.at x ≡ turned s w₀ g T.steps r.at x
    turn_is x =
        let by : List ℕ → List Text → Run = λ t ts. steps (same_print false g.width.bytes t ts) (text_is false g.width.bytes t ts) g.width.bytes g.m.count t T.steps (run r.at [] x) in
        ap (λ (t : List ℕ). by t (texts s w g.m)) c.stage ∙ ap (λ (ts : List Text). by (stage_in w₀ g) ts) c.names

    more : (ms : List ℕ) → Sofar s w₀ g to ms w r → Sofar s w₀ g to ms w' q
    more ms f =
        let t = T.each f.slots f.held f.before in
        let z = turned s w g T.steps r.at f.slots in
        record {
          turns = f.turns + T.steps;
          few = omega (arith, f.few, T.few);
          out = f.out ++ z.out;
          slots = z.slots;
          is =
              steps_append (same_at s w₀ g) (text_in s w₀ g) g.width.bytes g.m.count (stage_in w₀ g) f.turns T.steps (run 0 [] (started ms))
              ∙ ap (steps (same_at s w₀ g) (text_in s w₀ g) g.width.bytes g.m.count (stage_in w₀ g) T.steps) f.is
              ∙ steps_behind (same_at s w₀ g) (text_in s w₀ g) g.width.bytes g.m.count (stage_in w₀ g) T.steps r.at f.out f.slots
              ∙ ap (λ (v : Run). run v.at (f.out ++ v.out) v.slots) (sym (turn_is f.slots))
              ∙ ap (λ (i : ℕ). run i (f.out ++ z.out) z.slots) (sym t.at);
          lies =
              lies_append
              (lies_agree w w' to r.to f.out c.after (omega (arith, T.wrote.long, low, T.to, T.next.writable.inside)) T.wrote.long
              (λ i x y. T.wrote.others i (inr (inl (omega (arith, c.top), y)))) f.lies) t.lies;
          held = t.held;
          before = t.before;
        }

    pub stage_next : Staging s w₀ g to w' q
    stage_next = record {
      ground = grounded_wrote s w w' g r.to q.to lim c.ground W.top W.items low above T.wrote;
      stage = stage_wrote s w w' g r.to q.to lim c.ground W.top W.items low above T.wrote ∙ c.stage;
      names = texts-wrote s w w' g r.to q.to lim c.ground W.top W.items low above T.wrote ∙ c.names;
      turn = T.next;
      top = c.top;
      after = omega (arith, c.after, T.to);
      wrote = wrote_then g to r.to q.to w₀ w w' c.after T.to c.wrote T.wrote;
      each = λ ms m. more ms (c.each ms m);
    }

    pub stage_less : r.at < g.end - g.from → g.end - g.from - q.at < g.end - g.from - r.at
    stage_less h = omega (arith, T.on)

  -- ---- the end
  module _ (G : Grounded s w₀ g) (h : g.end - g.from ≤ r.at) where
    end_is : r.at ≡ size_in g
    unfolding size_in
    end_is = omega (arith, c.turn.upto)

    -- more turns than it takes change nothing
    replaced_is : (ms : List ℕ) (f : Sofar s w₀ g to ms w r) → replaced false g.width.bytes (stage_in w₀ g) (texts s w₀ g.m) ms ≡ run r.at f.out f.slots
    unfolding replaced
    replaced_is ms f =
        let t = stage_in w₀ g in
        let go : ℕ → ℕ → Run → Run = λ b n. steps (same_at s w₀ g) (text_in s w₀ g) g.width.bytes b t n in
        let e = stage_length s w₀ g G in
        let k : length t ≡ f.turns + (length t - f.turns) = omega (arith, f.few, end_is) in
        ap (λ (b : ℕ). go b (length t) (run 0 [] (started ms))) (texts-many s w₀ g)
        ∙ ap (λ (n : ℕ). go g.m.count n (run 0 [] (started ms))) k
        ∙ steps_append (same_at s w₀ g) (text_in s w₀ g) g.width.bytes g.m.count t f.turns (length t - f.turns) (run 0 [] (started ms))
        ∙ ap (go g.m.count (length t - f.turns)) f.is
        ∙ steps_end (same_at s w₀ g) (text_in s w₀ g) g.width.bytes g.m.count t (length t - f.turns) (run r.at f.out f.slots) (omega (arith, end_is))

    staged : (ms : List ℕ) → Sofar s w₀ g to ms w r → StagedBy s w₀ g to ms r w
    staged ms f = record {
      lies = subst (λ (v : Run). Lies w to v.out r.to) (sym (replaced_is ms f)) f.lies;
      held = subst (λ (v : Run). Held s w g r.pile r.count v.slots) (sym (replaced_is ms f)) f.held;
    }

    pub stage_done : Stages s w₀ g to r w
    stage_done = record {
      each = λ ms m. staged ms (c.each ms m);
      end = end_is;
      wrote = c.wrote;
      ground = c.ground;
      writable = subst (Writable s w g r.to) (let z : size_in g - r.at ≡ 0 = omega (arith, end_is) in z) c.turn.writable;
    }

pub ruleset staging = (rules, stage_start, stage_below, stage_long, stage_next, stage_less, stage_done)
