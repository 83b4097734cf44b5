-- The loop over windows of two printed forms. Assumes nothing.
use mathlib.Core.Path.{◌≡◌, refl, sym, ◌∙◌}
use mathlib.Core.Bool.{Bool, true, false}
use mathlib.Core.List.{List}
use Prim.Native.Nat.{ℕ, ◌+◌, ◌-◌, ◌*◌, ◌^◌, ◌<◌}
use native.Mathlib.Omega.{arith}
use mir.Syntax.{w128}
use mir.Val.{Fits}
use borrow.Author.Rules.{rules}
use lib.ListN.{length, drop, length-drop}
use lib.Seq.{drop-drop}
use Rattle.octets.specs.Plain.Runs.{same_as}
use Rattle.parse_tree.specs.Plain.Tree.{Sym}
use Rattle.parse_tree.specs.Plain.Display.{print}
use Rattle.texts.specs.declared.Map.{Map}
use Rattle.display.specs.declared.window.Verdict.{Verdict}
use Rattle.display.specs.declared.window.Verdict.TheVariants.{Same, Differ, More}
use Rattle.display.specs.Standing.{SymStands, SomeSym}
use Rattle.display.specs.Window.{Seen, Looks, SamePrints}
use Rattle.display.proofs.WindowBound.{print-short}

-- ---- plain numbers
sum : (n x l d b : ℕ) → x < d → d ≡ l - n → l < b → n + x < b
sum n x l d b h e k = omega arith

less : (b n x : ℕ) → n + x < b → 0 < x → b - (n + x) < b - n
less b n x h k = omega arith

below : (n l m : ℕ) → n + l < 2 ^ 64 * m → m < 2 ^ 64 → n + l < 2 ^ 128
below n l m h k = omega arith

module _ (s w : List ℕ) (m : Map) (wd left a b : ℕ) where
  -- what is left after n bytes of both decides
  pub record Comparing (n : ℕ) : Type 0 where
    pub first : SomeSym s w m wd left a
    pub second : SomeSym s w m wd left b
    pub rest : (four four' : Bool) (e e' : ℕ) (u v : Sym) → SymStands s w m wd four left a e u → SymStands s w m wd four' left b e' v → same_as (drop n (print u)) (drop n (print v)) ≡ same_as (print u) (print v)

  pub comparing_start : SomeSym s w m wd left a → SomeSym s w m wd left b → Comparing 0
  comparing_start f h = record { first = f; second = h; rest = λ four four' e e' u v p q. refl }

  -- windows of l bytes
  module _ (n l : ℕ) (v : Verdict) (i : Comparing n) (k : Looks s w m wd left a b n l v) where
    pub same_yes : v ≡ Same → SamePrints s w m wd left a b true
    unfolding Seen
    same_yes e = record { says = λ four four' d d' t u p q. go (drop n (print t)) (drop n (print u)) (k.looks four four' d d' t u p q) ∙ i.rest four four' d d' t u p q }
      where
        go : (xs ys : List ℕ) → Seen v l xs ys → true ≡ same_as xs ys
        go xs ys z = let z' : Seen Same l xs ys = rw e at z in sym z'

    pub same_no : v ≡ Differ → SamePrints s w m wd left a b false
    unfolding Seen
    same_no e = record { says = λ four four' d d' t u p q. go (drop n (print t)) (drop n (print u)) (k.looks four four' d d' t u p q) ∙ i.rest four four' d d' t u p q }
      where
        go : (xs ys : List ℕ) → Seen v l xs ys → false ≡ same_as xs ys
        go xs ys z = let z' : Seen Differ l xs ys = rw e at z in sym z'

    module _ (e : v ≡ More) where
      -- more than n + l bytes
      longer : length s < 2 ^ 64 → length w < 2 ^ 64 → n + l < 2 ^ 64 * length w
      unfolding Seen
      longer bs bw =
          let f = i.first in
          let g = i.second in
          let z : Seen More l (drop n (print f.symbol)) (drop n (print g.symbol)) = rw e at (k.looks f.four g.four f.end g.end f.symbol g.symbol f.stands g.stands) in
          let p = print-short s w m wd f.four left a f.end f.symbol bs bw f.stands in
          sum n l (length (print f.symbol)) (length (drop n (print f.symbol))) (2 ^ 64 * length w) z.0 (length-drop n (print f.symbol)) p

      pub more_less : 0 < l → length s < 2 ^ 64 → length w < 2 ^ 64 → 2 ^ 64 * length w - (n + l) < 2 ^ 64 * length w - n
      more_less h bs bw = less (2 ^ 64 * length w) n l (longer bs bw) h

      -- the count never overflows
      pub more_fits : length s < 2 ^ 64 → length w < 2 ^ 64 → Fits w128 (n + l)
      more_fits bs bw = record { fits = below n l (length w) (longer bs bw) bw }

      pub more_next : Comparing (n + l)
      unfolding Seen
      more_next = record { first = i.first; second = i.second; rest = λ four four' d d' t u p r. go (print t) (print u) (k.looks four four' d d' t u p r) (i.rest four four' d d' t u p r) }
        where
          go : (f g : List ℕ) → Seen v l (drop n f) (drop n g) → same_as (drop n f) (drop n g) ≡ same_as f g → same_as (drop (n + l) f) (drop (n + l) g) ≡ same_as f g
          go f g c o =
              let z : Seen More l (drop n f) (drop n g) = rw e at c in
              cc (drop-drop l n f, drop-drop l n g, z.1, o)

pub ruleset comparing = (rules, comparing_start, same_yes, same_no, more_less, more_next, more_fits)
