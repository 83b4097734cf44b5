-- The loop over the items of a grammar: what is written and what is left when the i-th is at hand, for every tree that stood there. Assumes nothing.
use mathlib.Core.Path.{◌≡◌, refl, sym, ap, ◌∙◌, subst}
use mathlib.Core.Bool.{Bool, cond}
use mathlib.Core.List.{List, [], ◌∷◌, ◌++◌, append_assoc, append-nil}
use Prim.Native.Nat.{ℕ, ◌+◌, ◌≤◌, ◌<◌}
use native.Mathlib.Omega.{arith}
use borrow.Author.Rules.{rules}
use lib.ListN.{length}
use Rattle.std.specs.Prelude.{Result, Ok, Err}
use Rattle.parse_tree.specs.Plain.Tree.{Text, Item, item}
use Rattle.parse_tree.specs.Plain.Texts.{distinct}
use Rattle.parse_tree.specs.declared.refusal.Refusal.{Refusal}
use Rattle.parse_tree.specs.Working.Refusals.{refusal_over}
use Rattle.texts.specs.declared.Map.{Map}
use Rattle.texts.specs.Table.{texts}
use Rattle.passes.specs.Outcome.{Outcome, yes, no, after}
use Rattle.passes.specs.Grades.{annotated}
use Rattle.passes.specs.Levels.{level_items, levelled, check_nonterminal, check_levels}
use Rattle.resolve.specs.declared.Grammar.{Grammar}
use Rattle.resolve.proofs.GrammarLaws.{row_place}
use Rattle.grades.specs.declared.Ids.{Ids}
use Rattle.grades.specs.Ids.{ids_in, Identified}
use Rattle.grades.proofs.IdsMean.{ids_are}
use Rattle.precedence.proofs.NamesMean.{named-texts, naming-start}
use Rattle.levels.specs.declared.Room.{Room}
use Rattle.levels.specs.declared.Written.{Written}
use Rattle.levels.specs.Expand.{Wrote}
use Rattle.levels.specs.Whole.{alternatives_in, ItemsLeft, SomeItems, SteppedBy, ItemSteps, GrammarStands, SomeGrammar, at_first, LevelledBy, Levels}
use Rattle.levels.proofs.WroteLaws.{wrote_none, wrote_more, wrote_append}
use Rattle.levels.proofs.WholeMean.{alternatives_split}

-- ---- items one behind another
levelled-append : (xs ys : List Item) → levelled (xs ++ ys) ≡ levelled xs ++ levelled ys
unfolding levelled
levelled-append [] ys = refl
levelled-append (item d ∷ xs) ys =
    ap (λ (l : List Item). cond (annotated d) (level_items d) (item d ∷ []) ++ l) (levelled-append xs ys) ∙ sym (append_assoc (cond (annotated d) (level_items d) (item d ∷ [])) (levelled xs) (levelled ys))
levelled-append (Item.terminal sp o x ∷ xs) ys = ap (λ (l : List Item). Item.terminal sp o x ∷ l) (levelled-append xs ys)

-- the first is asked, then the others
check_split : (x : Item) (rest : List Item) → check_levels (x ∷ rest) ≡ after (check_levels (x ∷ [])) (λ u. check_levels rest)
unfolding check_levels
check_split (item d) rest = go (check_nonterminal d)
  where
    go : (o : Outcome (Unit {0})) → after o (λ u. check_levels rest) ≡ after (after o (λ u. yes (tt {0}))) (λ u. check_levels rest)
    go (yes u) = refl
    go (no q sp) = refl
check_split (Item.terminal sp o x) rest = refl

-- ---- what an answer tells
is_written : (r : Result Written Refusal) (v v' : Written) → r ≡ Ok v → r ≡ Ok v' → v' ≡ v
is_written r v v' p q = ap read (sym q ∙ p)
  where
    read : Result Written Refusal → Written
    read (Ok x) = x
    read (Err why) = v

never_both : {A : Type 0} (r : Result Written Refusal) (v : Written) (why : Refusal) → r ≡ Ok v → r ≡ Err why → A
never_both {A} r v why p q = absurd (subst Fine (sym p ∙ q) tt)
  where
    Fine : Result Written Refusal → Type 0
    Fine (Ok x) = Unit {0}
    Fine (Err w) = ⊥

module _ (s : List ℕ) (m : Map) (t : Grammar) (room : Room) (w0 : List ℕ) (ids : Ids) where
  -- of the items R that stood there, some are done and written, and the others are left
  pub record Doing (i : ℕ) (v : Written) (w : List ℕ) (four : Bool) (R : List Item) : Type 0 where
    pub done : List Item
    pub items : List Item
    pub names : ℕ
    pub split : R ≡ done ++ items
    pub left : ItemsLeft s m t room ids i v w four items
    pub wrote : Wrote s m room t.width.bytes ids w0 (at_first m room) names (levelled done) v w
    pub few : names + alternatives_in items ≤ alternatives_in R
    pub check : check_levels R ≡ check_levels items

  -- THE INVARIANT: there are such items, and for all that stood there some are left
  pub record Looping (i : ℕ) (v : Written) (w : List ℕ) : Type 0 where
    pub some : SomeGrammar s m t room w0
    pub each : (four : Bool) (R : List Item) → GrammarStands s m t room w0 four R → Doing i v w four R

  -- ---- before the first
  all_left : (four : Bool) (R : List Item) → Identified (texts s w0 m) ids → GrammarStands s m t room w0 four R → ItemsLeft s m t room ids 0 (at_first m room) w0 four R
  all_left four R a g =
      let e = named-texts s w0 m in
      let z = ids_are (texts s w0 m) ids g.apart a in
      record {
        laid = g.laid;
        before = g.before;
        row = rw (row_place t (texts s w0 m) w0 0 t.at R g.row) g.row;
        within = g.within;
        names = record {
          naming = naming-start s w0 m g.table g.some g.few;
          above = g.above;
          apart = ap distinct e ∙ g.apart;
          ids_are = z ∙ ap (λ (ts : List Text). ids_in ts) (sym e);
          ids_table = z;
        };
        from = omega arith;
        upto = omega (arith, g.laid.ordered);
        many = omega (arith, g.many);
      }

  -- theorem: at first all are left
  pub looping_start : Identified (texts s w0 m) ids → SomeGrammar s m t room w0 → Looping 0 (at_first m room) w0
  unfolding levelled
  looping_start a g = record {
    some = g;
    each = λ four R h.
        let l = all_left four R a h in
        record {
          done = [];
          items = R;
          names = 0;
          split = refl;
          left = l;
          wrote = wrote_none s m room t.width.bytes ids w0 (at_first m room) l.names l.upto;
          few = omega arith;
          check = refl;
        };
  }

  -- ---- the next
  module _ (i : ℕ) (v : Written) (w : List ℕ) (g : Looping i v w) where
    -- theorem: there are items that `expand_item` can take
    pub looping_some : SomeItems s m t room ids i v w
    looping_some =
        let x = g.each g.some.four g.some.items g.some.stands in
        record { four = g.some.four; items = x.items; left = x.left }

    -- theorem: work is as long as it was
    pub looping_same : length w ≡ length w0
    looping_same = (g.each g.some.four g.some.items g.some.stands).wrote.long

    -- theorem: and so after a step
    pub looping_long : (w' : List ℕ) → length w' ≡ length w → length w' ≡ length w0
    looping_long w' e = e ∙ looping_same

    -- ---- of one tree that stood there
    module _ (four : Bool) (R : List Item) (h : GrammarStands s m t room w0 four R) where
      abbrev d : Doing i v w four R
      d = g.each four R h

      -- one item more is done, where it is fine
      did_next : (x : Item) (rest done : List Item) (k : ℕ) → R ≡ done ++ (x ∷ rest) → Wrote s m room t.width.bytes ids w0 (at_first m room) k (levelled done) v w → k + alternatives_in (x ∷ rest) ≤ alternatives_in R
          → check_levels R ≡ check_levels (x ∷ rest) → check_levels (x ∷ []) ≡ yes tt → (v' : Written) (w' : List ℕ) → Wrote s m room t.width.bytes ids w v (alternatives_in (x ∷ [])) (levelled (x ∷ [])) v' w'
          → ItemsLeft s m t room ids (i + 1) v' w' four rest → Doing (i + 1) v' w' four R
      did_next x rest done k e a f c y v' w' b l =
          let z = wrote_append s m room t.width.bytes ids w0 (at_first m room) k (levelled done) v w (alternatives_in (x ∷ [])) (levelled (x ∷ [])) v' w' (omega arith) (omega (arith, h.laid.ordered)) a b in
          record {
            done = done ++ (x ∷ []);
            items = rest;
            names = k + alternatives_in (x ∷ []);
            split = e ∙ sym (append_assoc done (x ∷ []) rest);
            left = l;
            wrote = rw (levelled-append done (x ∷ [])) z;
            few = omega (arith, f, alternatives_split x rest);
            check = c ∙ check_split x rest ∙ ap (λ (o : Outcome (Unit {0})). after o (λ u. check_levels rest)) y;
          }

      step_by_lem : (x : Item) (rest done : List Item) (k : ℕ) → R ≡ done ++ (x ∷ rest) → Wrote s m room t.width.bytes ids w0 (at_first m room) k (levelled done) v w → k + alternatives_in (x ∷ rest) ≤ alternatives_in R
          → check_levels R ≡ check_levels (x ∷ rest) → (r : Result Written Refusal) (w' : List ℕ) (v' : Written) → r ≡ Ok v' → (o : Outcome (Unit {0})) → check_levels (x ∷ []) ≡ o
          → SteppedBy s m t room ids o i v w four x rest r w' → Doing (i + 1) v' w' four R
      unfolding SteppedBy
      step_by_lem x rest done k e a f c r w' v' z (yes u) y b =
          let j : b.0 ≡ v' = is_written r v' b.0 z b.1 in
          rw (← j) (did_next x rest done k e a f c y b.0 w' b.2 b.3)
      step_by_lem x rest done k e a f c r w' v' z (no q sp) y b = never_both r v' (refusal_over q sp) z b

      stop-by : (x : Item) (rest : List Item) → check_levels R ≡ check_levels (x ∷ rest) → (r : Result Written Refusal) (w' : List ℕ) (why : Refusal) → r ≡ Err why → (o : Outcome (Unit {0})) → check_levels (x ∷ []) ≡ o
          → SteppedBy s m t room ids o i v w four x rest r w' → LevelledBy s m t room (check_levels R) w0 R (Err why) w'
      unfolding SteppedBy LevelledBy
      stop-by x rest c r w' why z (yes u) y b = never_both r b.0 why b.1 z
      stop-by x rest c r w' why z (no q sp) y b =
          let n : check_levels R ≡ no q sp = c ∙ check_split x rest ∙ ap (λ (o : Outcome (Unit {0})). after o (λ u. check_levels rest)) y in
          rw n (sym z ∙ b)

      next_doing : i < t.count → (r : Result Written Refusal) (w' : List ℕ) → ItemSteps s m t room ids i v w r w' → (v' : Written) → r ≡ Ok v' → Doing (i + 1) v' w' four R
      unfolding ItemSteps
      next_doing b r w' f v' z = go d.items d.split d.left d.few d.check
        where
          go : (is : List Item) → R ≡ d.done ++ is → ItemsLeft s m t room ids i v w four is → d.names + alternatives_in is ≤ alternatives_in R → check_levels R ≡ check_levels is
              → Doing (i + 1) v' w' four R
          go [] e l k c = absurd (omega (arith, l.many))
          go (x ∷ rest) e l k c = step_by_lem x rest d.done d.names e d.wrote k c r w' v' z (check_levels (x ∷ [])) refl (f four x rest l)

      refused_doing : i < t.count → (r : Result Written Refusal) (w' : List ℕ) → ItemSteps s m t room ids i v w r w' → (why : Refusal) → r ≡ Err why → LevelledBy s m t room (check_levels R) w0 R (Err why) w'
      unfolding ItemSteps
      refused_doing b r w' f why z = go d.items d.left d.check
        where
          go : (is : List Item) → ItemsLeft s m t room ids i v w four is → check_levels R ≡ check_levels is → LevelledBy s m t room (check_levels R) w0 R (Err why) w'
          go [] l c = absurd (omega (arith, l.many))
          go (x ∷ rest) l c = stop-by x rest c r w' why z (check_levels (x ∷ [])) refl (f four x rest l)

      done_all : t.count ≤ i → LevelledBy s m t room (check_levels R) w0 R (Ok v) w
      unfolding LevelledBy check_levels
      done_all b = go d.items d.split d.left d.few d.check
        where
          go : (is : List Item) → R ≡ d.done ++ is → ItemsLeft s m t room ids i v w four is → d.names + alternatives_in is ≤ alternatives_in R → check_levels R ≡ check_levels is
              → LevelledBy s m t room (check_levels R) w0 R (Ok v) w
          go [] e l k c =
              let n : ids ≡ ids_in (texts s w0 m) = l.names.ids_table ∙ ap (λ (ts : List Text). ids_in ts) d.wrote.same in
              let j : R ≡ d.done = e ∙ append-nil d.done in
              let a = wrote_more s m room t.width.bytes ids w0 (at_first m room) d.names (levelled d.done) v w (alternatives_in R) (omega (arith, k)) d.wrote in
              rw c (v, refl, rw (← n) (subst (λ (xs : List Item). Wrote s m room t.width.bytes ids w0 (at_first m room) (alternatives_in R) (levelled xs) v w) (sym j) a))
          go (x ∷ rest) e l k c = absurd (omega (arith, l.many))

    -- theorem: after a fine item the others are left
    pub looping_next : i < t.count → (r : Result Written Refusal) (w' : List ℕ) → ItemSteps s m t room ids i v w r w' → (v' : Written) → r ≡ Ok v' → Looping (i + 1) v' w'
    looping_next b r w' f v' z = record { some = g.some; each = λ four R h. next_doing four R h b r w' f v' z }

    -- theorem: a refused item is the answer
    pub looping_refused : i < t.count → (r : Result Written Refusal) (w' : List ℕ) → ItemSteps s m t room ids i v w r w' → (why : Refusal) → r ≡ Err why → Levels s m t room w0 (Err why) w'
    unfolding Levels
    looping_refused b r w' f why z four R h = refused_doing four R h b r w' f why z

    -- theorem: at the end all are written
    pub looping_done : t.count ≤ i → Levels s m t room w0 (Ok v) w
    unfolding Levels
    looping_done b four R h = done_all four R h b

pub ruleset looping = (rules, looping_start, looping_some, looping_same, looping_long, looping_next, looping_refused, looping_done)
