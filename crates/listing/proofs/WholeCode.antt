-- The ways out of list_yes, list_no and list. Assumes nothing.
use mathlib.Core.Path.{◌≡◌, refl, sym, ap, ◌∙◌, subst}
use mathlib.Core.Bool.{true, false}
use mathlib.Core.List.{List, ◌++◌}
use Prim.Native.Nat.{ℕ, ◌+◌, ◌*◌, ◌≤◌}
use native.Mathlib.Omega.{arith}
use borrow.Author.Rules.{rules}
use borrow.Author.Tests.{leb-true}
use lib.ListN.{length, take, drop, get_or, length-append}
use lib.Seq.{take-append_seam}
use mir.Val as Bound
use mir.Syntax.{w8}
use Rattle.parse_tree.specs.Plain.Tree.{Stage}
use Rattle.parse_tree.specs.Plain.Reading.{Reading, got}
use Rattle.parse_tree.specs.Plain.WriteTape.{tape_of}
use Rattle.parse_tree.specs.Working.Decode.{decode_by, decode_any}
use Rattle.parse_tree.specs.declared.refusal.Refusal.{Refusal}
use Rattle.parse_tree.proofs.ReadTapeIs.{read_is}
use Rattle.passes.specs.Outcome.{Outcome, yes, no}
use Rattle.passes.specs.Stages.{all_stages}
use Rattle.passes.specs.Calls.{sizes, validate_call, whole, written}
use Rattle.passes.proofs.Outcomes.{after-yes}
use Rattle.meaning.proofs.Calls.Staged.{opened}
use Rattle.meaning.proofs.Calls.Output.{output_read}
use Rattle.precedence.specs.Write.{Puts}
use Rattle.std.specs.Prelude.{Result, Ok, Err}
use Rattle.output.specs.Plain.Answers.{answer_of, Called}
use Rattle.listing.specs.declared.Listed.{Listed}
use Rattle.listing.specs.Listing.{listed}
use Rattle.listing.specs.Tree.{refused_by}
use Rattle.listing.specs.Walk.{PutsFrom, ListsRead, ListsTree}
use Rattle.listing.specs.Whole.{listed_from, FrontFits, ListsFront, PutsListing}

-- ---- `list_no`
pub no_done : (w : List ℕ) (why : Refusal) (r : ℕ) (w₁ : List ℕ) → Puts w (length w) 0 (listed (refused_by why)) r w₁ → PutsListing (length w) (refused_by why) (record { from = 0; to = r }) w₁
unfolding refused_by listed_from
no_done w why r w₁ p = record { from = refl; puts = record { work = w; long = refl; puts = p } }

pub ruleset listing_no = (rules, no_done)

-- ---- `list`: y is what the call answered, o₁ and w₁ what it left
module _ (s o w : List ℕ) (y : Result ℕ Refusal) (o₁ w₁ : List ℕ) (c : Called (whole true 2 s 64 (length o) (length w)) s o w y o₁ w₁) where
  abbrev x : Outcome Stage
  x = whole true 2 s 64 (length o) (length w)

  pub list_refused : length w₁ ≡ length w → (why : Refusal) → y ≡ Err why → (r : Listed) (w₂ : List ℕ) → PutsListing (length w₁) (refused_by why) r w₂ → PutsListing (length w) x r w₂
  unfolding answer_of refused_by
  list_refused l why e r w₂ p = subst (λ (k : ℕ). PutsListing k x r w₂) l (subst (λ (u : Outcome Stage). PutsListing (length w₁) u r w₂) (go x (sym e ∙ c.answered)) p)
    where
      go : (z : Outcome Stage) → Err why ≡ answer_of z → refused_by why ≡ z
      go (yes g) i = absurd (let q : ◌≡◌ {A = ℕ} 0 1 = cc in omega arith)
      go (no k sp) i = let j : why ≡ record { number = k; from = sp.0; to = sp.1 } = cc in rw j refl

  module _ (n : ℕ) (e : y ≡ Ok n) where
    accepted : (g : Stage) × (x ≡ yes g) × (n ≡ length (tape_of 2 g))
    unfolding answer_of
    accepted = go x refl (sym e ∙ c.answered)
      where
        go : (z : Outcome Stage) → x ≡ z → Ok n ≡ answer_of z → (g : Stage) × (x ≡ yes g) × (n ≡ length (tape_of 2 g))
        go (yes g) h i = (g, h, cc)
        go (no k sp) h i = absurd (let q : ◌≡◌ {A = ℕ} 0 1 = cc in omega arith)

    tree_is : o₁ ≡ tape_of 2 accepted.0 ++ drop (length (tape_of 2 accepted.0)) o
    unfolding written
    tree_is = c.tree ∙ ap (λ (z : Outcome Stage). written 2 z o) accepted.1

    inside : length o₁ ≡ length o → n ≤ length o₁
    inside l =
        let t = tape_of 2 accepted.0 in
        omega (arith, accepted.2, ap length tree_is, length-append t (drop (length t) o), l)

    pub list_fits : length o₁ ≡ length o → length w₁ ≡ length w → FrontFits o₁ w₁ n
    unfolding whole
    list_fits k l =
        let (u, eu, e1) = after-yes (validate_call true 2 s (length o) (length w)) (all_stages (sizes 2 (length o)) 64) accepted.0 accepted.1 in
        record {
          inside = inside k;
          room = omega (arith, leb-true (8 * (length s + length o)) (length w) (opened true 2 s (length o) (length w) u eu).room, inside k, l, k);
        }

    front_is : take n o₁ ≡ tape_of 2 accepted.0
    front_is =
        let t = tape_of 2 accepted.0 in
        ap (λ (k : ℕ). take k o₁) accepted.2 ∙ ap (take (length t)) tree_is ∙ take-append_seam t (drop (length t) o)

    pub list_accepted : ((j : ℕ) → Bound.Fits w8 (get_or s j 0)) → length w₁ ≡ length w → (r : Listed) (w₂ : List ℕ) → ListsFront o₁ n (length w₁) r w₂ → PutsListing (length w) x r w₂
    unfolding ListsTree ListsRead decode_any listed_from
    list_accepted b l r w₂ d =
        let g = accepted.0 in
        let t = tape_of 2 g in
        let read : decode_by false 2 t ≡ got g (length t) = sym (read_is false 2 t) ∙ output_read 2 true s 64 (length o) (length w) g (λ j. (b j).fits) accepted.1 in
        let a : ListsRead (decode_by false 2 t) (length t) (length w₁) r.to w₂ = subst (λ (z : List ℕ). ListsTree z (length w₁) r.to w₂) front_is d.lists in
        let p : PutsFrom (length w₁) (8 * length t) (listed (yes g)) r.to w₂ = subst (λ (z : Reading Stage). ListsRead z (length t) (length w₁) r.to w₂) read a in
        let f : 8 * length t ≡ r.from = omega (arith, d.from, accepted.2) in
        subst (λ (z : Outcome Stage). PutsListing (length w) z r w₂) (sym accepted.1)
        (record { from = sym f; puts = subst (λ (k : ℕ). PutsFrom k r.from (listed (yes g)) r.to w₂) l (subst (λ (k : ℕ). PutsFrom (length w₁) k (listed (yes g)) r.to w₂) f p) })

pub ruleset listing_tape = (rules, list_refused, list_fits, list_accepted)
