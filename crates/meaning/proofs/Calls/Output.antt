-- The stage that a yes of the call for all ends with is within a tape's limits, so its tape is read back. Assumes nothing.
use mathlib.Core.Path.{◌≡◌, refl, sym, ap, ◌∙◌}
use mathlib.Core.Bool.{Bool, true, false, ◌&&◌, false≢true, and-eq-true_iff}
use mathlib.Core.List.{List, [], ◌∷◌, ◌++◌}
use mathlib.Core.Option.{Option, none, some}
use Prim.Native.Nat.{ℕ, zero, suc, ◌^◌, ◌<◌, ◌≤◌}
use native.Mathlib.Omega.{arith}
use borrow.Author.Tests.{leb-true, ltb-true}
use lib.Dec.{leb, ltb}
use lib.ListN.{length}
use Rattle.octets.specs.Working.Choice.{pick}
use Rattle.octets.specs.Plain.Numbers.{Bytes}
use Rattle.parse_tree.specs.Plain.Tree.{Text, Leaf, Around, Over, Sym, Syms, Action, Attribute, Condition, Alternative, Item, Stage, ambiguous, bare, quoted, regex, nonterminal, lookahead, lookbehind, error, repeat, choose, name, macro, group, leaf, around, over, nil, cons, no_action, user, fallible, lookahead_action, lookbehind_action, item, count, conditions}
use Rattle.parse_tree.specs.Plain.Texts.{is_name, is_literal, is_ascii, has, distinct}
use Rattle.parse_tree.specs.Plain.Reading.{got}
use Rattle.parse_tree.specs.Working.Decode.{decode_by}
use Rattle.parse_tree.specs.Plain.WriteTape.{tape_of}
use Rattle.parse_tree.specs.Plain.ReadTape.{read_tape}
use Rattle.parse_tree.proofs.WriteTapeIs.{tape_is}
use Rattle.parse_tree.proofs.ReadTapeIs.{read_is}
use Rattle.parse_tree.specs.Plain.References.{texts_of_each, leaf_texts, around_texts, over_texts, sym_texts, syms_texts, action_texts, attribute_texts, condition_texts, alternative_texts, item_texts}
use Rattle.parse_tree.specs.Working.Within.{Each, SpanWithin, Uses, LeafWithin, AroundWithin, OverWithin, SymWithin, SymsWithin, ActionWithin, ArgumentWithin, AttributeWithin, ConditionWithin, AlternativeWithin, ItemWithin, StageWithin}
use Rattle.parse_tree.proofs.TextLaws.{number-below}
use Rattle.parse_tree.proofs.Written.{written}
use Rattle.parse_tree.proofs.ReadBack.{read_back}
use Rattle.parse_tree.proofs.ReadingLaws.{each_all}
use Rattle.parse_tree.proofs.NothingNew.{There}
use Rattle.passes.specs.Outcome.{yes}
use Rattle.passes.specs.Resolve.{resolve}
use Rattle.passes.specs.Levels.{levels}
use Rattle.passes.specs.Macros.{without_macros}
use Rattle.passes.specs.Sizes.{each, over_fits, sym_fits, syms_fit, alternative_fits, item_fits, stage_fits}
use Rattle.passes.specs.Stages.{stage, resolve_stage, level_stage, macro_stages, all_stages}
use Rattle.passes.specs.Calls.{sizes, validate_call, whole}
use Rattle.passes.proofs.Outcomes.{after-yes}
use Rattle.meaning.specs.Spans.{SymSpans, SymsSpans, ConditionSpans, AlternativeSpans, ItemSpans}
use Rattle.meaning.proofs.Calls.Staged.{opened}
use Rattle.meaning.proofs.Calls.Spans.{resolve-spans, levels-spans}
use Rattle.meaning.proofs.Calls.RoundSpans.{stage_spans, rounds_spans, without_macros-spans}
use Rattle.meaning.proofs.Calls.Atoms.{Stocked, stage_stocked, rounds_stocked}

-- ---- the spans of what is within its limits
module _ (four : Bool) (w : ℕ) (ts : List Text) where
  mutual
    sym_spans : (x : Sym) (left : ℕ) → SymWithin four w ts x left → SymSpans SpanWithin x
    sym_spans (leaf s l) zero h = absurd h
    sym_spans (leaf s l) (suc left) h = h.0
    sym_spans (around s a x) zero h = absurd h
    sym_spans (around s a x) (suc left) h = (h.0, sym_spans x left h.2)
    sym_spans (over s o xs) zero h = absurd h
    sym_spans (over s o xs) (suc left) h = (h.0, syms_spans xs left h.2)

    syms_spans : (xs : Syms) (left : ℕ) → SymsWithin four w ts xs left → SymsSpans SpanWithin xs
    syms_spans nil left h = tt
    syms_spans (cons x xs) left h = (sym_spans x left h.0, syms_spans xs left h.1)

  condition_spans : (o : Option Condition) → Each (ConditionWithin four w ts) (conditions o) → ConditionSpans SpanWithin o
  condition_spans none h = tt
  condition_spans (some c) h = h.0.span

  pub item_spans : (i : Item) → ItemWithin four w ts i → ItemSpans SpanWithin i
  item_spans (item d) h =
      let alternative : (a : Alternative) → AlternativeWithin four w ts a → AlternativeSpans SpanWithin a = λ a k. (k.span, condition_spans a.condition k.condition, syms_spans a.symbols 64 k.symbols) in
      (h.span, each_all (AlternativeWithin four w ts) (AlternativeSpans SpanWithin) alternative d.alternatives h.alternatives)
  item_spans (Item.terminal s o x) h = h.0

under : {a b c : ℕ} → a < b → b ≤ c → a < c
under {a} {b} {c} h k = omega arith

-- ---- texts among the atoms, counts that fit and spans that fit are within the limits
module _ (w : ℕ) (ts : List Text) (few : length ts ≤ 256 ^ w) where
  there_split : (xs ys : List Text) → There ts (xs ++ ys) → There ts xs × There ts ys
  there_split [] ys h = (tt, h)
  there_split (x ∷ xs) ys h = let (k, l) = there_split xs ys h.1 in ((h.0, k), l)

  -- question 4 is not asked, so the class does not matter
  uses : (class : Text → Bool) (x : Text) → has x ts ≡ true → Uses false w ts class x
  unfolding pick
  uses class x h = (h, under (number-below ts x h) few, refl)

  leaf_within : (l : Leaf) → There ts (leaf_texts l) → LeafWithin false w ts l
  unfolding leaf_texts
  leaf_within (ambiguous x) h = uses is_name x h.0
  leaf_within (bare x) h = uses is_name x h.0
  leaf_within (quoted x) h = uses is_literal x h.0
  leaf_within (regex x) h = uses is_literal x h.0
  leaf_within (nonterminal x) h = uses is_name x h.0
  leaf_within lookahead h = tt
  leaf_within lookbehind h = tt
  leaf_within error h = tt

  around_within : (a : Around) → There ts (around_texts a) → AroundWithin false w ts a
  unfolding around_texts
  around_within (repeat o) h = tt
  around_within choose h = tt
  around_within (name m x) h = uses is_name x h.0

  over_within : (o : Over) (n : ℕ) → There ts (over_texts o) → over_fits o n ≡ true → OverWithin false w ts o n
  unfolding over_texts
  over_within (macro x) n h f = let (a, b) = (and-eq-true_iff (leb 1 n) (ltb n 256)).0 f in (uses is_name x h.0, leb-true 1 n a, ltb-true n 256 b)
  over_within group n h f = ltb-true n 65536 f

  mutual
    unfolding sym_texts syms_texts

    sym_within : (x : Sym) (left : ℕ) → There ts (sym_texts x) → sym_fits x left ≡ true → SymSpans SpanWithin x → SymWithin false w ts x left
    sym_within (leaf s l) zero h f p = absurd (false≢true f)
    sym_within (leaf s l) (suc left) h f p = (p, leaf_within l h)
    sym_within (around s a x) zero h f p = absurd (false≢true f)
    sym_within (around s a x) (suc left) h f p =
        let (k, l) = there_split (around_texts a) (sym_texts x) h in
        (p.0, around_within a k, sym_within x left l f p.1)
    sym_within (over s o xs) zero h f p = absurd (false≢true f)
    sym_within (over s o xs) (suc left) h f p =
        let (k, l) = there_split (over_texts o) (syms_texts xs) h in
        let (a, b) = (and-eq-true_iff (over_fits o (count xs)) (syms_fit xs left)).0 f in
        (p.0, over_within o (count xs) k a, syms_within xs left l b p.1)

    syms_within : (xs : Syms) (left : ℕ) → There ts (syms_texts xs) → syms_fit xs left ≡ true → SymsSpans SpanWithin xs → SymsWithin false w ts xs left
    syms_within nil left h f p = tt
    syms_within (cons x xs) left h f p =
        let (k, l) = there_split (sym_texts x) (syms_texts xs) h in
        let (a, b) = (and-eq-true_iff (sym_fits x left) (syms_fit xs left)).0 f in
        (sym_within x left k a p.0, syms_within xs left l b p.1)

  action_within : (a : Action) → There ts (action_texts a) → ActionWithin false w ts a
  unfolding action_texts
  action_within no_action h = tt
  action_within (user t) h = uses is_ascii t h.0
  action_within (fallible t) h = uses is_ascii t h.0
  action_within lookahead_action h = tt
  action_within lookbehind_action h = tt

  argument-within : (i : Text) (o : Option (Text × Text)) → There ts (attribute_texts (record { id = i; argument = o })) → Uses false w ts is_name i × ArgumentWithin false w ts o
  unfolding attribute_texts
  argument-within i none h = (uses is_name i h.0, tt)
  argument-within i (some kv) h = (uses is_name i h.0, (uses is_ascii kv.0 h.1.0, uses is_ascii kv.1 h.1.1.0))

  attributes_within : (as' : List Attribute) → There ts (texts_of_each attribute_texts as') → Each (AttributeWithin false w ts) as'
  unfolding texts_of_each
  attributes_within [] h = tt
  attributes_within (a ∷ rest) h =
      let (k, l) = there_split (attribute_texts a) (texts_of_each attribute_texts rest) h in
      (argument-within a.id a.argument k, attributes_within rest l)

  condition_within : (o : Option Condition) → There ts (texts_of_each condition_texts (conditions o)) → ConditionSpans SpanWithin o → Each (ConditionWithin false w ts) (conditions o)
  unfolding texts_of_each condition_texts
  condition_within none h p = tt
  condition_within (some c) h p = (record { span = p; lhs = uses is_name c.lhs h.0; rhs = uses is_literal c.rhs h.1.0 }, tt)

  alternative_within : (a : Alternative) → There ts (alternative_texts a) → alternative_fits a ≡ true → AlternativeSpans SpanWithin a → AlternativeWithin false w ts a
  unfolding alternative_texts
  alternative_within a h f p =
      let (h1, k1) = there_split (action_texts a.action) (texts_of_each attribute_texts a.attributes ++ (texts_of_each condition_texts (conditions a.condition) ++ syms_texts a.symbols)) h in
      let (h2, k2) = there_split (texts_of_each attribute_texts a.attributes) (texts_of_each condition_texts (conditions a.condition) ++ syms_texts a.symbols) k1 in
      let (h3, h4) = there_split (texts_of_each condition_texts (conditions a.condition)) (syms_texts a.symbols) k2 in
      let (f1, g1) = (and-eq-true_iff (ltb (length a.attributes) 256) (ltb (count a.symbols) 65536 && syms_fit a.symbols 64)).0 f in
      let (f2, f3) = (and-eq-true_iff (ltb (count a.symbols) 65536) (syms_fit a.symbols 64)).0 g1 in
      record {
        span = p.0;
        few = ltb-true (length a.attributes) 256 f1;
        attributes = attributes_within a.attributes h2;
        condition = condition_within a.condition h3 p.1;
        action = action_within a.action h1;
        fewer = ltb-true (count a.symbols) 65536 f2;
        symbols = syms_within a.symbols 64 h4 f3 p.2;
      }

  alternatives_within : (as' : List Alternative) → There ts (texts_of_each alternative_texts as') → each alternative_fits as' ≡ true → Each (AlternativeSpans SpanWithin) as' → Each (AlternativeWithin false w ts) as'
  unfolding texts_of_each
  alternatives_within [] h f p = tt
  alternatives_within (a ∷ rest) h f p =
      let (k, l) = there_split (alternative_texts a) (texts_of_each alternative_texts rest) h in
      let (b, c) = (and-eq-true_iff (alternative_fits a) (each alternative_fits rest)).0 f in
      (alternative_within a k b p.0, alternatives_within rest l c p.1)

  item_within : (i : Item) → There ts (item_texts i) → item_fits i ≡ true → ItemSpans SpanWithin i → ItemWithin false w ts i
  unfolding item_texts
  item_within (item d) h f p =
      let (h1, h2) = there_split d.args (texts_of_each alternative_texts d.alternatives) h.1 in
      let (f1, g1) = (and-eq-true_iff (ltb (length d.args) 256) (ltb (length d.alternatives) 65536 && each alternative_fits d.alternatives)).0 f in
      let (f2, f3) = (and-eq-true_iff (ltb (length d.alternatives) 65536) (each alternative_fits d.alternatives)).0 g1 in
      record {
        span = p.0;
        name = uses is_name d.name h.0;
        few = ltb-true (length d.args) 256 f1;
        args = each_all (λ (x : Text). has x ts ≡ true) (Uses false w ts is_name) (uses is_name) d.args h1;
        fewer = ltb-true (length d.alternatives) 65536 f2;
        alternatives = alternatives_within d.alternatives h2 f3 p.1;
      }
  item_within (Item.terminal s o x) h f p = (p, uses is_name x h.0)

  items_within : (is' : List Item) → There ts (texts_of_each item_texts is') → each item_fits is' ≡ true → Each (ItemSpans SpanWithin) is' → Each (ItemWithin false w ts) is'
  unfolding texts_of_each
  items_within [] h f p = tt
  items_within (i ∷ rest) h f p =
      let (k, l) = there_split (item_texts i) (texts_of_each item_texts rest) h in
      let (b, c) = (and-eq-true_iff (item_fits i) (each item_fits rest)).0 f in
      (item_within i k b p.0, items_within rest l c p.1)

short_texts : (ts : List Text) → each (λ (t : Text). ltb (length t) 65536) ts ≡ true → Each (λ (t : Text). length t < 65536) ts
short_texts [] f = tt
short_texts (t ∷ ts) f =
    let (a, b) = (and-eq-true_iff (ltb (length t) 65536) (each (λ (t : Text). ltb (length t) 65536) ts)).0 f in
    (ltb-true (length t) 65536 a, short_texts ts b)

-- ---- stages
module _ (w : ℕ) where
  pub stage_within : (g : Stage) → Stocked w g → Each (ItemSpans SpanWithin) g.items → StageWithin false w g
  unfolding stage_fits
  stage_within g h p =
      let (f1, k) = (and-eq-true_iff (leb (length g.atoms) (256 ^ w)) (each (λ (t : Text). ltb (length t) 65536) g.atoms && each item_fits g.items)).0 h.fits in
      let (f2, f3) = (and-eq-true_iff (each (λ (t : Text). ltb (length t) 65536) g.atoms) (each item_fits g.items)).0 k in
      record { apart = h.apart; short = short_texts g.atoms f2; items = items_within w g.atoms (leb-true (length g.atoms) (256 ^ w) f1) g.items h.there f3 p }

  -- what the passes carry from stage to stage
  record Carried (g : Stage) : Type 0 where
    apart : distinct g.atoms ≡ true
    spans : Each (ItemSpans SpanWithin) g.items

  decoded_carried : (four : Bool) (tape : List ℕ) (u : Stage) (n : ℕ) → Bytes tape → decode_by four w tape ≡ got u n → Carried u
  decoded_carried four tape u n b e =
      let h = (written four w tape u n b e).within in
      record { apart = h.apart; spans = each_all (ItemWithin four w u.atoms) (ItemSpans SpanWithin) (item_spans four w u.atoms) u.items h.items }

  stage_carried : (cap : ℕ) (ts : List Text) (items : List Item) (g : Stage) → distinct ts ≡ true → Each (ItemSpans SpanWithin) items → stage (sizes w cap) ts items ≡ yes g → Carried g
  stage_carried cap ts items g d p e = record { apart = (stage_stocked w cap ts items g d e).apart; spans = stage_spans SpanWithin w cap ts items g p e }

  output_within : (cap limit : ℕ) (u g : Stage) → Carried u → all_stages (sizes w cap) limit u ≡ yes g → StageWithin false w g
  unfolding all_stages resolve_stage level_stage macro_stages
  output_within cap limit u g c e =
      let (r, er, e1) = after-yes (resolve_stage (sizes w cap) u) _ g e in
      let (l, el, e2) = after-yes (level_stage (sizes w cap) r) _ g e1 in
      let (A, eA, e3) = after-yes (resolve l.items) _ g e2 in
      let (R, eR, e4) = after-yes (resolve u.items) _ r er in
      let (L, eL, e5) = after-yes (levels r.items) _ l el in
      let cr = stage_carried cap u.atoms R r c.apart (resolve-spans SpanWithin u.items R c.spans eR) e4 in
      let cl = stage_carried cap r.atoms L l cr.apart (levels-spans SpanWithin r.items L cr.spans eL) e5 in
      let pA = resolve-spans SpanWithin l.items A cl.spans eA in
      stage_within g (rounds_stocked w cap A limit l.atoms [] (without_macros A) [] g cl.apart e3)
      (rounds_spans SpanWithin w cap A limit l.atoms [] (without_macros A) [] g pA tt (without_macros-spans SpanWithin A pA) e3)

  -- so the tape that the call wrote is read back as that stage
  pub output_read : (four : Bool) (tape : List ℕ) (limit cap work : ℕ) (g : Stage) → Bytes tape → whole four w tape limit cap work ≡ yes g
      → read_tape false w (tape_of w g) ≡ got g (length (tape_of w g))
  unfolding whole
  output_read four tape limit cap work g b e =
      let (u, eu, e1) = after-yes (validate_call four w tape cap work) _ g e in
      let o = opened four w tape cap work u eu in
      let c = decoded_carried four tape u o.end b (sym (read_is four w tape) ∙ o.decoded) in
      read_is false w (tape_of w g) ∙ ap (λ (t : List ℕ). decode_by false w t) (tape_is w g) ∙ read_back false w g (output_within cap limit u g c e1) ∙ ap (λ (t : List ℕ). got g (length t)) (sym (tape_is w g))
