-- The two stages of a round: their texts, what their numbers say of 20 and 21, and what a stage that passed is. Assumes nothing.
use mathlib.Core.Path.{◌≡◌, refl, sym, ap, ◌∙◌, subst}
use mathlib.Core.Logic.{◌⊎◌, inl, inr}
use mathlib.Core.Bool.{Bool, true, false, cond, not, ◌&&◌}
use mathlib.Core.List.{List, [], ◌∷◌, ◌++◌, append-nil, append_assoc}
use mathlib.Core.Option.{Option, none, some}
use Prim.Native.Nat.{ℕ, ◌+◌, ◌<◌, ◌≤◌}
use native.Mathlib.Omega.{arith}
use borrow.Author.Tests.{lt-ltb, ltb-false, leb-true}
use lib.Dec.{leb, ltb}
use lib.ListN.{length}
use Rattle.std.specs.Prelude.{Ok, Err}
use Rattle.octets.specs.Working.Choice.{pick}
use Rattle.parse_tree.specs.Plain.Tree.{Text, star, plus, question, Syms, macro, group, Nonterminal, Item, item, Stage}
use Rattle.parse_tree.specs.Plain.Texts.{with_new}
use Rattle.parse_tree.specs.Plain.References.{texts_of_each, item_texts, stage_of}
use Rattle.parse_tree.specs.Plain.WriteTape.{bytes_of_each}
use Rattle.parse_tree.specs.Working.Encode.{atom_bytes, item_bytes, stage_bytes}
use Rattle.parse_tree.specs.Working.Refusals.{refusal_at}
use Rattle.parse_tree.specs.declared.refusal.Refusal.{Refusal}
use Rattle.parse_tree.specs.declared.syntax.Span.{Span}
use Rattle.parse_tree.proofs.TextLaws.{both}
use Rattle.parse_tree.proofs.WriteTapeIs.{tape_is}
use Rattle.texts.specs.Atoms.{some_long}
use Rattle.passes.specs.Outcome.{Tree, yes, no, simple}
use Rattle.passes.specs.Views.{ahead, behind}
use Rattle.passes.specs.Macros.{Pending, looking, repeating, listing, expand_alternatives, macro_in, expand_macro_symbol, expand_expr_symbol, expand_symbol, drain, has_name, group_action, made, without_macros}
use Rattle.passes.specs.Sizes.{each, item_fits, stage_fits}
use Rattle.passes.specs.Calls.{sizes}
use Rattle.passes.proofs.Outcomes.{no≢yes, after-yes}
use Rattle.passes.proofs.ResolveKeeps.{yes_as}
use Rattle.meaning.proofs.Calls.Staged.{admitted as passed}
use Rattle.replacing.proofs.Growing.{extends_refl, new_append, new_there}
use Rattle.replacing.proofs.ThereBytes.{new_all}
use Rattle.rounds.specs.Judge.{Verdict, verdict, admitted}
use Rattle.rounds.specs.Paid.{TreeKnown}
use Rattle.rounds.proofs.JudgeMeans.{bytes_in, judge_means}

-- ---- the texts of a stage
texts-two : (is js : List Item) → texts_of_each item_texts (is ++ js) ≡ texts_of_each item_texts is ++ texts_of_each item_texts js
unfolding texts_of_each
texts-two [] js = refl
texts-two (i ∷ is) js = ap (λ (l : List Text). item_texts i ++ l) (texts-two is js) ∙ sym (append_assoc (item_texts i) (texts_of_each item_texts is) (texts_of_each item_texts js))

new_two : (ts : List Text) (is js : List Item) → with_new ts (texts_of_each item_texts (is ++ js)) ≡ with_new (with_new ts (texts_of_each item_texts is)) (texts_of_each item_texts js)
new_two ts is js = ap (with_new ts) (texts-two is js) ∙ new_append ts (texts_of_each item_texts is) (texts_of_each item_texts js)

-- texts that are there add nothing
known_none : (ts : List Text) (is : List Item) → TreeKnown ts is → with_new ts (texts_of_each item_texts is) ≡ ts
unfolding texts_of_each with_new
known_none ts [] h = refl
known_none ts (i ∷ is) h =
    new_append ts (item_texts i) (texts_of_each item_texts is)
    ∙ ap (λ (l : List Text). with_new l (texts_of_each item_texts is)) (new_there ts ts (item_texts i) (extends_refl ts) h.0)
    ∙ known_none ts is h.1

again_none : (ts xs : List Text) → with_new (with_new ts xs) xs ≡ with_new ts xs
again_none ts xs = new_there (with_new ts xs) (with_new ts xs) xs (extends_refl (with_new ts xs)) (new_all ts xs)

-- theorem: appending behind a stage counts on from its texts
pub appended_stage_lem : (ts : List Text) (is new : List Item) → stage_of (stage_of ts is).atoms (is ++ new) ≡ stage_of ts (is ++ new)
unfolding stage_of
appended_stage_lem ts is new =
    let X = texts_of_each item_texts is in
    let N = texts_of_each item_texts new in
    ap (λ (l : List Text). record { atoms = l; items = is ++ new }) (
    new_two (with_new ts X) is new
    ∙ ap (λ (l : List Text). with_new l N) (again_none ts X)
    ∙ sym (new_two ts is new))

-- theorem: items whose texts are known add none
pub replaced_atoms : (ts : List Text) (old q : List Item) → TreeKnown ts old → (stage_of ts (old ++ q)).atoms ≡ (stage_of ts q).atoms
unfolding stage_of
replaced_atoms ts old q h = new_two ts old q ∙ ap (λ (l : List Text). with_new l (texts_of_each item_texts q)) (known_none ts old h)

-- theorem
pub appended_atoms : (ts : List Text) (is new : List Item) → (stage_of ts (is ++ new)).atoms ≡ with_new (stage_of ts is).atoms (texts_of_each item_texts new)
unfolding stage_of
appended_atoms ts is new = new_two ts is new

-- ---- the items of the pile have no arguments
call_plain : (s : Span) (key : Text) (xs : Syms) (o : Option Nonterminal) (d : Nonterminal) → expand_macro_symbol s key xs o ≡ yes d → d.args ≡ []
call_plain s key xs none d e = absurd (no≢yes 11 s d e)
call_plain s key xs (some m) d e =
    let (bs, f, g) = after-yes (expand_alternatives s m.args xs m.alternatives) _ d e in
    yes_as (λ c. c.args ≡ []) g refl

group_plain : (s : Span) (key : Text) (xs : Syms) (d : Nonterminal) → expand_expr_symbol s key xs ≡ yes d → d.args ≡ []
group_plain s key xs d e = go (has_name xs) e
  where
    go : (b : Bool) → cond b (no 19 s) (yes (made s key true (simple s (group_action xs) xs ∷ []))) ≡ yes d → d.args ≡ []
    go true f = absurd (no≢yes 19 s d f)
    go false f = yes_as (λ c. c.args ≡ []) f refl

expand_plain : (G : Tree) (x : Pending) (d : Nonterminal) → expand_symbol G x ≡ yes d → d.args ≡ []
unfolding expand_symbol
expand_plain G (looking s ahead) d e = yes_as (λ c. c.args ≡ []) e refl
expand_plain G (looking s behind) d e = yes_as (λ c. c.args ≡ []) e refl
expand_plain G (repeating s star x) d e = yes_as (λ c. c.args ≡ []) e refl
expand_plain G (repeating s plus x) d e = yes_as (λ c. c.args ≡ []) e refl
expand_plain G (repeating s question x) d e = yes_as (λ c. c.args ≡ []) e refl
expand_plain G (listing s (macro n) xs) d e = call_plain s _ xs (macro_in G n) d e
expand_plain G (listing s group xs) d e = group_plain s _ xs d e

plain-stays : (d : Nonterminal) (is : List Item) → d.args ≡ [] → without_macros is ≡ is → without_macros (item d ∷ is) ≡ item d ∷ is
plain-stays d is p h =
    ap (λ (l : List Text). elim l [ [] ↦ item d ∷ without_macros is | p ∷ ps ↦ without_macros is ]) p ∙ ap (λ (l : List Item). item d ∷ l) h

-- theorem: so none of them is a macro
pub drained_without : (G : Tree) (xs : List Pending) (new : List Item) → drain G xs ≡ yes new → without_macros new ≡ new
unfolding drain
drained_without G [] new e = yes_as (λ (is : List Item). without_macros is ≡ is) e refl
drained_without G (x ∷ xs) new e =
    let (d, p, q) = after-yes (expand_symbol G x) _ new e in
    let (ds, r, z) = after-yes (drain G xs) _ new q in
    yes_as (λ (is : List Item). without_macros is ≡ is) z (plain-stays d ds (expand_plain G x d p) (drained_without G xs ds r))

-- ---- judging with new texts
abbrev short : Text → Bool
short t = ltb (length t) 65536

-- the bytes matter only by whether they are too many
verdict-as : (count : ℕ) (long deep : Bool) (a b cap : ℕ) → ltb cap a ≡ ltb cap b → verdict count long deep a cap ≡ verdict count long deep b cap
unfolding verdict
verdict-as count long deep a b cap e = rw e refl

module _ (cap : ℕ) (ts us : List Text) (old new : List Item) (atoms : (stage_of ts (old ++ new)).atoms ≡ ts ++ us) (shorts : each short ts ≡ true) (fits : each item_fits old ≡ true) where
  -- all of its bytes but the new texts'
  abbrev pub rest_in : ℕ
  rest_in = length (bytes_of_each (atom_bytes 2) ts) + length (bytes_of_each (item_bytes 2 (ts ++ us)) old) + length (bytes_of_each (item_bytes 2 (ts ++ us)) new)

  abbrev all_in : ℕ
  all_in = bytes_in cap ts us old new atoms shorts fits

  abbrev new_in : ℕ
  new_in = length (bytes_of_each (atom_bytes 2) us)

  same_test : (bytes : ℕ) → (bytes ≡ rest_in) ⊎ ((cap < bytes) × (cap < rest_in)) → ltb cap all_in ≡ ltb cap (bytes + new_in)
  same_test bytes (inl e) = ap (ltb cap) (let z : all_in ≡ bytes + new_in = omega arith in z)
  same_test bytes (inr (l, m)) = lt-ltb cap all_in (omega arith) ∙ sym (lt-ltb cap (bytes + new_in) (omega arith))

  -- theorem: where the bytes are known, or known to be too many
  pub judged : (deep : Bool) → deep ≡ not (each item_fits new) → (bytes : ℕ) → (bytes ≡ rest_in) ⊎ ((cap < bytes) × (cap < rest_in))
      → sizes 2 cap (stage_of ts (old ++ new)) ≡ admitted (verdict (length ts + length us) (some_long us) deep (bytes + length (bytes_of_each (atom_bytes 2) us)) cap) (stage_of ts (old ++ new))
  judged deep d bytes h =
      judge_means cap ts us old new atoms shorts fits
      ∙ ap (λ (q : Verdict). admitted q (stage_of ts (old ++ new))) (
      verdict-as (length ts + length us) (some_long us) (not (each item_fits new)) all_in (bytes + new_in) cap (same_test bytes h)
      ∙ ap (λ (b : Bool). verdict (length ts + length us) (some_long us) b (bytes + new_in) cap) (sym d))

-- theorem: with nothing new behind
pub judged-only : (cap : ℕ) (ts us : List Text) (is : List Item) → (stage_of ts is).atoms ≡ ts ++ us → each short ts ≡ true → each item_fits is ≡ true → (bytes : ℕ) → bytes ≡ length (bytes_of_each (atom_bytes 2) ts) + length (bytes_of_each (item_bytes 2 (ts ++ us)) is)
    → sizes 2 cap (stage_of ts is) ≡ admitted (verdict (length ts + length us) (some_long us) false (bytes + length (bytes_of_each (atom_bytes 2) us)) cap) (stage_of ts is)
unfolding bytes_of_each
judged-only cap ts us is a s f bytes e =
    subst (λ (js : List Item). sizes 2 cap (stage_of ts js) ≡ admitted (verdict (length ts + length us) (some_long us) false (bytes + length (bytes_of_each (atom_bytes 2) us)) cap) (stage_of ts js)) (append-nil is)
    (judged cap ts us is [] (ap (λ (js : List Item). (stage_of ts js).atoms) (append-nil is) ∙ a) s f false refl bytes (inl (omega arith)))

-- ---- a stage that passed
-- theorem
pub fine_parts : (cap : ℕ) (g : Stage) → sizes 2 cap g ≡ yes g → (stage_fits 2 g ≡ true) × (length (stage_bytes 2 g) ≤ cap)
fine_parts cap g e = let p = passed 2 cap g g e in (p.fits, subst (λ (l : List ℕ). length l ≤ cap) (tape_is 2 g) p.room)

-- theorem
pub fits_parts : (g : Stage) → stage_fits 2 g ≡ true → (length g.atoms ≤ 65536) × (each short g.atoms ≡ true) × (each item_fits g.items ≡ true)
unfolding stage_fits
fits_parts g e =
    let (a, r) = both (leb (length g.atoms) 65536) (each short g.atoms && each item_fits g.items) e in
    let (b, c) = both (each short g.atoms) (each item_fits g.items) r in
    (leb-true (length g.atoms) 65536 a, b, c)

-- ---- a verdict
-- theorem
pub verdict-parts : (count : ℕ) (long deep : Bool) (bytes cap : ℕ) → verdict count long deep bytes cap ≡ Ok tt → (count ≤ 65536) × (long ≡ false) × (deep ≡ false) × (bytes ≤ cap)
unfolding verdict pick
verdict-parts count long deep bytes cap e = go (ltb 65536 count) refl long deep (ltb cap bytes) refl e
  where
    go : (a : Bool) → ltb 65536 count ≡ a → (b c d : Bool) → ltb cap bytes ≡ d → ◌≡◌ {A = Verdict} (pick a (Err (refusal_at 20 0)) (pick b (Err (refusal_at 20 0)) (pick c (Err (refusal_at 20 0)) (pick d (Err (refusal_at 21 0)) (Ok tt))))) (Ok tt) → (count ≤ 65536) × (b ≡ false) × (c ≡ false) × (bytes ≤ cap)
    go true x b c d y z = cc
    go false x true c d y z = cc
    go false x false true d y z = cc
    go false x false false true y z = cc
    go false x false false false y z = (ltb-false 65536 count x, refl, refl, ltb-false cap bytes y)

-- theorem
pub admitted-fine : (v : Verdict) (g : Stage) (u : Unit {0}) → v ≡ Ok u → admitted v g ≡ yes g
unfolding admitted
admitted-fine v g u e = rw e refl

-- theorem
pub admitted-no : (v : Verdict) (g : Stage) (why : Refusal) → v ≡ Err why → admitted v g ≡ no why.number (record { 0 = why.from; 1 = why.to })
unfolding admitted
admitted-no v g why e = rw e refl
