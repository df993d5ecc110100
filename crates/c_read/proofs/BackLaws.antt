-- A text of a program that keeps the rules is read as that program.
use Rattle.std.proofs.Common.{◌≡◌, ℕ, zero, suc, List, [], ◌∷◌, ◌++◌, Some, None, Ok, Err, refl, sym, ap, ◌∙◌}
use Rattle.std.specs.Prelude.{flat_map}
use Rattle.std.proofs.lemmas.List.{append-nil}
use Rattle.c_lang.specs.declared.tree.Program.{Program}
use Rattle.c_lang.specs.Items.{Text, items, text_of}
use Rattle.c_lang.specs.StaticRules.{static_fault}
use Rattle.c_lang.proofs.StaticLaws.{static-faultless}
use Rattle.c_text.specs.Tokens.{Token, tokens}
use Rattle.c_text.specs.Items.{item_toks, program_toks}
use Rattle.c_text.specs.Spells.{first_line}
use Rattle.c_unique.proofs.Whole.{text_same}
use Rattle.c_read.specs.declared.draft.Draft.{Draft}
use Rattle.c_read.specs.declared.draft.FirstCall.{FirstCall}
use Rattle.c_read.specs.declared.fault.CFault.TheVariants.{Lex, BadItem, Static, NoMemory}
use Rattle.c_read.specs.Pieces.{piece_toks}
use Rattle.c_read.specs.Drafts.{draft_of, nothing, pieces, with_all}
use Rattle.c_read.specs.Texts.{IsBad, IsBroken, IsCText, IsLex, ReadsBack, behind_line, line_of}
use Rattle.c_read.proofs.OneReading.{IsWholeText, no_both, same_texts}
use Rattle.c_read.proofs.Whole.{whole_draft, whole_forms, whole_leads, whole_toks}

-- the first line of a text that begins with it
line_is : (rest : List ℕ) → line_of (first_line ++ 10 ∷ rest) ≡ first_line
line_is rest = refl

behind_is : (rest : List ℕ) → behind_line (first_line ++ 10 ∷ rest) ≡ rest
behind_is rest = refl

abbrev first_call : Text → FirstCall
first_call t = record { entry = t.entry; first = t.first }

-- texts with the same items are the same
same_items : (t u : Text) → pieces t ≡ pieces u → t ≡ u
same_items t u e = of_draft (sym (whole_draft t) ∙ ap (with_all nothing) e ∙ whole_draft u)
  where
    of_draft : draft_of t ≡ draft_of u → t ≡ u
    of_draft e =
        let machines : t.machine ∷ [] ≡ u.machine ∷ [] = ap (λ (d : Draft). d.machines) e in
        let machine : t.machine ≡ u.machine = cc in
        let tables : t.table ∷ [] ≡ u.table ∷ [] = ap (λ (d : Draft). d.tables) e in
        let table : t.table ≡ u.table = cc in
        let calls : first_call t ∷ [] ≡ first_call u ∷ [] = ap (λ (d : Draft). d.calls) e in
        let call : first_call t ≡ first_call u = cc in
        (λ i. record {
          machine = machine i;
          segments = (ap (λ (d : Draft). d.segments) e) i;
          table = table i;
          prototypes = (ap (λ (d : Draft). d.prototypes) e) i;
          functions = (ap (λ (d : Draft). d.functions) e) i;
          entry = (ap (λ (c : FirstCall). c.entry) call) i;
          first = (ap (λ (c : FirstCall). c.first) call) i;
        })

no_fault : {P : Type 0} (x : ℕ × ℕ) → None ≡ Some x → P
no_fault x e = absurd (cc)

-- ---- what a text of a program is not read as

module _ (text : List ℕ) (p : Program) (h : IsCText text p) where
  first : line_of text ≡ first_line
  first = ap line_of h.spells.first ∙ line_is h.spells.rest

  behind : tokens (behind_line text) ≡ Ok (program_toks p)
  behind = ap (λ t. tokens (behind_line t)) h.spells.first ∙ ap tokens (behind_is h.spells.rest) ∙ h.spells.behind

  same_toks : (ts : List Token) → tokens (behind_line text) ≡ Ok ts → ts ≡ program_toks p
  same_toks ts e = let both : Ok ts ≡ Ok (program_toks p) = sym e ∙ behind in cc

  stands : (ts : List Token) → tokens (behind_line text) ≡ Ok ts → IsWholeText ts (pieces (text_of p))
  stands ts e = record {
    spelled = same_toks ts e ∙ whole_toks (text_of p) ∙ sym (append-nil (flat_map piece_toks (pieces (text_of p))));
    proper = whole_forms (text_of p) h.spells.possible.each;
    stages = whole_leads (text_of p);
  }

  no_lex : (line : ℕ) → IsLex text line → ⊥
  no_lex line l = let both : Err l.left ≡ Ok (program_toks p) = sym l.stops ∙ behind in absurd (cc)

  no_bad : (index : ℕ) → IsBad text index → ⊥
  no_bad zero b = b.other first
  no_bad (suc k) b = no_both b.given (pieces (text_of p)) k (stands b.given b.lexed) b.bad

  no_broken : (item rule : ℕ) → IsBroken text item rule → ⊥
  no_broken item rule b =
      let ts = flat_map item_toks (items b.t) in
      let other : IsWholeText ts (pieces b.t) = record {
        spelled = whole_toks b.t ∙ sym (append-nil (flat_map piece_toks (pieces b.t)));
        proper = whole_forms b.t b.spells.forms;
        stages = whole_leads b.t;
      } in
      let same = same_items b.t (text_of p) (same_texts ts (pieces b.t) (pieces (text_of p)) other (stands ts b.spells.behind)) in
      no_fault (item, rule) (sym (static-faultless p h.keeps) ∙ ap static_fault (sym same) ∙ b.fault)

pub back : ReadsBack
back text p (Ok q) h r n = ap Ok (text_same text q p r.spells h.spells)
back text p (Err (Lex line)) h r n = absurd (no_lex text p h line r)
back text p (Err (BadItem index)) h r n = absurd (no_bad text p h index r)
back text p (Err (Static item rule)) h r n = absurd (no_broken text p h item rule r)
back text p (Err NoMemory) h r n = absurd (n refl)
