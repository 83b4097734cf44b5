-- The texts of the table that names begin with: base_text, level_hash, is_level_name, matches. Assumes nothing.
use mathlib.Core.Path.{◌≡◌, refl, sym, ap, ◌∙◌}
use mathlib.Core.Bool.{Bool, true}
use mathlib.Core.List.{List, [], ◌∷◌, ◌++◌}
use Prim.Native.Nat.{ℕ, zero, suc, ◌+◌, ◌*◌, ◌-◌, ◌/◌, ◌%◌, ◌≤◌, ◌<◌}
use native.Mathlib.Omega.{arith}
use borrow.Author.Rules.{rules}
use borrow.Author.Tests.{lt-ltb, le-ltb}
use lib.Dec.{ltb}
use lib.ListN.{length, get_or}
use lib.Seq.{take_all}
use mir.Syntax.{w8}
use mir.Val.{Fits}
use Rattle.std.specs.List.{fold, range_with_len}
use Rattle.octets.specs.Working.Choice.{pick}
use Rattle.octets.specs.Plain.Numbers.{le_at}
use Rattle.octets.specs.Plain.Runs.{part, same_as}
use Rattle.octets.proofs.PartLaws.{part_none, part-one, part_length}
use Rattle.octets.proofs.ChoiceLaws.{by_pick}
use Rattle.octets.proofs.SameLaws.{eq_same_as}
use Rattle.parse_tree.specs.Plain.Tree.{Text}
use Rattle.texts.specs.declared.Map.{Map}
use Rattle.texts.specs.Hash.{hash_by, hash_step, hash_from, hash_of}
use Rattle.texts.specs.Fields.{mark_at, hash_at}
use Rattle.texts.specs.Atoms.{atom_end, atom_text}
use Rattle.texts.specs.Texts.{holder, place_at, marked_text, Whole}
use Rattle.texts.specs.Table.{texts}
use Rattle.texts.proofs.HashLaws.{from_none, from_more}
use Rattle.texts.proofs.TextCode.{texts-at}
use Rattle.grades.specs.Grade.{level_digits}
use Rattle.precedence.specs.Names.{Based, Spelled, BaseText, level_text, described_text, named_text}

-- ---- base_text
two_small : (s : List ℕ) (a : ℕ) → ((i : ℕ) → Fits w8 (get_or s i 0)) → le_at 2 s a < 65536
unfolding le_at
two_small s a f = omega (arith, (f a).fits, (f (a + 1)).fits)

atom_short : (s : List ℕ) (a : ℕ) → ((i : ℕ) → Fits w8 (get_or s i 0)) → atom_end s a ≤ length s → length (atom_text s a) < 65536
unfolding atom_text atom_end
atom_short s a f h = omega (arith, part_length (a + 3) (a + 3 + le_at 2 s (a + 1)) s h, two_small s (a + 1) f)

module _ (s w : List ℕ) (f : (i : ℕ) → Fits w8 (get_or s i 0)) (g : (i : ℕ) → Fits w8 (get_or w i 0)) where
  text_short : (x : ℕ) → Whole s w x → length (marked_text s w x) < 65536
  unfolding marked_text holder
  text_short x h = atom_short (holder s w x) (place_at s x) bytes h.inside
    where
      bytes : (i : ℕ) → Fits w8 (get_or (holder s w x) i 0)
      bytes = by_pick (λ (l : List ℕ). (i : ℕ) → Fits w8 (get_or l i 0)) (ltb x (4 * length s)) (λ _. f) (λ _. g)

  pub base_done : (m : Map) (k x : ℕ) (t : Text) → Based s w m k → x ≡ mark_at w m.base k → t ≡ marked_text s w x → BaseText s w m k t
  unfolding texts
  base_done m k x t c e p = record {
    text = p ∙ ap (marked_text s w) e ∙ sym (texts-at s w m.base m.count k c.below);
    short = rw (p, e) (text_short (mark_at w m.base k) c.whole);
  }

module _ (s w : List ℕ) (m : Map) (k : ℕ) (c : Based s w m k) where
  pub base_whole : (x : ℕ) → x ≡ mark_at w m.base k → Whole s w x
  base_whole x e = rw e c.whole

pub ruleset basing = (rules, base_whole, base_done)

-- ---- level_hash
append_from : (h : ℕ) (xs ys : Text) → hash_from h (xs ++ ys) ≡ hash_from (hash_from h xs) ys
unfolding hash_from hash_by
append_from h [] ys = refl
append_from h (x ∷ xs) ys = append_from ((h + x) * 2654435761 % 4294967296) xs ys

-- ---- add_digits: a fold over the digits by place
module _ (xs : List ℕ) where
  folds_from : (k n h : ℕ) → k + n ≡ length xs → fold (λ (a i : ℕ). hash_step a (get_or xs i 0)) h (range_with_len k n) ≡ hash_from h (part k (length xs) xs)
  folds_from k zero h e = cc (part_none k (length xs) xs (omega arith), from_none h)
  folds_from k (suc n) h e =
      folds_from (k + 1) n (hash_step h (get_or xs k 0)) (omega arith) ∙ sym (from_more h (get_or xs k 0) (part (k + 1) (length xs) xs))
      ∙ ap (hash_from h) (sym (part-one k (length xs) xs (omega arith) (omega arith)))

  pub digits_fold : (n h : ℕ) → n ≡ length xs → fold (λ (a i : ℕ). hash_step a (get_or xs i 0)) h (range_with_len 0 n) ≡ hash_from h xs
  unfolding part
  digits_fold n h e = folds_from 0 n h (omega arith) ∙ ap (hash_from h) (take_all (length xs - 0) xs (omega arith))

-- ---- level_hash
module _ (s w : List ℕ) (m : Map) (b v : ℕ) where
  pub level_done : (h r : ℕ) → Based s w m b → h ≡ hash_at w m.base b → r ≡ hash_from h (level_digits v) → r ≡ hash_of (level_text s w m b v)
  unfolding level_text texts hash_of
  level_done h r c e q =
      let x = marked_text s w (mark_at w m.base b) in
      let t : hash_of x ≡ h = sym (e ∙ c.hash) in
      q ∙ ap (λ (k : ℕ). hash_from k (level_digits v)) (sym t) ∙ sym (append_from 0 x (level_digits v))
      ∙ ap (λ (y : Text). hash_from 0 (y ++ level_digits v)) (sym (texts-at s w m.base m.count b c.below))

pub ruleset leveling = (rules, level_done)

-- ---- is_level_name
module _ (s w : List ℕ) (m : Map) (k : ℕ) where
  pub named_table : k < m.count → named_text s w m k ≡ marked_text s w (mark_at w m.base k)
  unfolding named_text pick
  named_table h = cc (lt-ltb k m.count h)

  pub named-described : m.count ≤ k → named_text s w m k ≡ described_text s w m (mark_at w m.base k)
  unfolding named_text pick
  named-described h = cc (le-ltb k m.count h)

  module _ (c : Spelled s w m k) where
    pub spell_whole : (x : ℕ) → k < m.count → x ≡ mark_at w m.base k → Whole s w x
    spell_whole x h e = rw e (c.whole h)

    pub spell_base : (x : ℕ) → m.count ≤ k → x ≡ mark_at w m.base k → Based s w m (x / 4294967296)
    spell_base x h e = rw e (c.base h)

  pub spell_same : (b v x : ℕ) → m.count ≤ k → x ≡ mark_at w m.base k → (x / 4294967296 ≡ b) × (x % 4294967296 ≡ v) → true ≡ same_as (named_text s w m k) (level_text s w m b v)
  unfolding described_text
  spell_same b v x h e (p, q) =
      let z : described_text s w m x ≡ level_text s w m b v = ap (λ (i : ℕ). level_text s w m i (x % 4294967296)) p ∙ ap (level_text s w m b) q in
      sym (eq_same_as (named_text s w m k) (level_text s w m b v) (named-described h ∙ ap (described_text s w m) (sym e) ∙ z))

  module _ (b v x : ℕ) (y : Text) (d : BaseText s w m b y) (e : x ≡ mark_at w m.base k) (r : Bool) where
    pub spell_table : (t : Text) → k < m.count → t ≡ marked_text s w x → r ≡ same_as t (y ++ level_digits v) → r ≡ same_as (named_text s w m k) (level_text s w m b v)
    unfolding level_text
    spell_table t h p q = q ∙ ap (λ (u : Text). same_as u (y ++ level_digits v)) (p ∙ ap (marked_text s w) e ∙ sym (named_table h)) ∙ ap (λ (u : Text). same_as (named_text s w m k) (u ++ level_digits v)) d.text

    pub spell_described : (a : Text) → m.count ≤ k → BaseText s w m (x / 4294967296) a → r ≡ same_as (a ++ level_digits (x % 4294967296)) (y ++ level_digits v)
        → r ≡ same_as (named_text s w m k) (level_text s w m b v)
    unfolding level_text described_text
    spell_described a h c q =
        let z : a ++ level_digits (x % 4294967296) ≡ named_text s w m k
        = ap (λ (u : Text). u ++ level_digits (x % 4294967296)) c.text ∙ ap (described_text s w m) e ∙ sym (named-described h) in
        q ∙ ap (λ (u : Text). same_as u (y ++ level_digits v)) z ∙ ap (λ (u : Text). same_as (named_text s w m k) (u ++ level_digits v)) d.text

pub ruleset naming = (rules, spell_whole, spell_base, spell_same, spell_table, spell_described)
