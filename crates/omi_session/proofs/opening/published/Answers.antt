use Rattle.std.proofs.Common.{◌≡◌, ◌≢◌, inl, inr, ℕ, List, Option, refl, Some, None, sym, ap, subst, ◌∙◌}
use Rattle.std.specs.Prelude.{Result, Ok, Err, codes}
use Rattle.std.proofs.lemmas.Result.{err_from_is_err_and}
use Rattle.omi_calls.specs.Asked.{Asked, Symbol, asked_after}
use Rattle.omi_calls.specs.Kept.{Kept}
use Rattle.omi_calls.specs.Told.{Told}
use Rattle.omi_layout.specs.declared.fault.LayoutFault.{LayoutFault}
use Rattle.omi_layout.specs.declared.fault.LayoutFault.TheVariants.{Version, Overlap, OutOfRecord, BadArena}
use Rattle.omi_layout.specs.declared.reading.LayoutError.TheVariants.{NoSymbol, Refused}
use Rattle.omi_word.specs.Words.{Words}
use Rattle.omi_word.specs.SymbolTable.{symbol_in}
use Rattle.omi_layout.specs.NoLayout.{table_address}
use Rattle.omi_layout.specs.Valid.{word_named}
use Rattle.omi_session.specs.declared.rc.Rc.{Rc}
use Rattle.omi_session.specs.declared.rc.Rc.TheVariants.{CallbackError, Incompatible}
use Rattle.omi_session.specs.Opening.{RanOpening, fault_code, table_words}
use Rattle.omi_session.specs.Reads.{Ran}
use Rattle.omi_session.proofs.Told.{still_tells}
use Rattle.omi_session.proofs.OpeningReads.{sizes_are}
use Rattle.omi_session.proofs.Refusals.{named_within, stopped}
use Rattle.omi_session.proofs.opening.published.Goals as goal

pub refusal-requires : goal.refusal-requires
refusal-requires g c = named_within c.in_ok-words.words c.in-Err.fault c.in-Err.ensures

pub returns-in-NoSuch-clause-words : goal.returns-in-NoSuch-clause-words
returns-in-NoSuch-clause-words g c = λ memory t sizes ne. record {
  error = NoSymbol;
  gives_none = subst (λ (m : Words). symbol_in m (codes "omi_layout") ≡ None) (sym t.is) (c.in-NoSuch.ensures.table t.words t.rest t.words_told);
  is = refl;
}

pub returns-in_err-words-clause-words : goal.returns-in_err-words-clause-words
returns-in_err-words-clause-words g c = λ memory t sizes.
    let symbol : symbol_in memory (codes "omi_layout") ≡ Some c.in-At.address =
    subst (λ (m : Words). symbol_in m (codes "omi_layout") ≡ Some c.in-At.address) (sym t.is)
    (c.in-At.ensures.table t.words t.rest t.words_told) in
    let p = err_from_is_err_and c.from_residual.result c.from_residual.ensures.1 in
    rw (p.1, p.2)
    (stopped memory c.in-At.address symbol _ (c.in_err-words.ensures.words memory (still_tells _ _ memory c.symbol_addr_lookup.ensures.same t)))

pub returns-in-Ok-clause-words : goal.returns-in-Ok-clause-words
returns-in-Ok-clause-words g c = λ memory t sizes. record {
  address = c.in-At.address;
  symbol = subst (λ (m : Words). symbol_in m (codes "omi_layout") ≡ Some c.in-At.address) (sym t.is) (c.in-At.ensures.table t.words t.rest t.words_told);
  table = c.in_ok-words.ensures.words memory (still_tells _ _ memory c.symbol_addr_lookup.ensures.same t) ∙ ap Some (sym c.in-Ok.ensures);
}

pub returns-in-Err-clause-words : goal.returns-in-Err-clause-words
returns-in-Err-clause-words g c = λ memory t sizes ne. record {
  error = Refused (table_address c.in-At.address (word_named c.in-Err.fault)) c.in-Err.fault;
  gives_none = record {
    address = c.in-At.address;
    symbol = subst (λ (m : Words). symbol_in m (codes "omi_layout") ≡ Some c.in-At.address) (sym t.is) (c.in-At.ensures.table t.words t.rest t.words_told);
    table = c.in_ok-words.words;
    read = c.in_ok-words.ensures.words memory (still_tells _ _ memory c.symbol_addr_lookup.ensures.same t);
    refused = c.in-Err.ensures;
    is = refl;
  };
  is = c.refusal.ensures;
}

-- the look-up answered, and the words of the table were read behind it
module _ {C F : Type 0} (told : C → Told) (asked : C → Asked) (old mid new : Kept C F) (place : Option ℕ) where
  pub behind_symbol : (memory : Words) (found : Result (List ℕ) Rc) → symbol_in memory (codes "omi_layout") ≡ place
      → told mid.calls ≡ told old.calls → asked mid.calls ≡ asked_after (Symbol (codes "omi_layout")) (asked old.calls)
      → Ran (told mid.calls) memory CallbackError (table_words place) (asked mid.calls) (asked new.calls) found
      → RanOpening (told old.calls) memory (asked old.calls) (asked new.calls) found
  behind_symbol memory found is same first ran =
      inr (subst (λ s. Ran (told old.calls) memory CallbackError (table_words s) (asked_after (Symbol (codes "omi_layout")) (asked old.calls)) (asked new.calls) found) (sym is)
      (subst (λ a. Ran (told old.calls) memory CallbackError (table_words place) a (asked new.calls) found) first
      (subst (λ t. Ran t memory CallbackError (table_words place) (asked mid.calls) (asked new.calls) found) same ran)))

pub returns-in-NoSuch-clause-asked : goal.returns-in-NoSuch-clause-asked
returns-in-NoSuch-clause-asked g c = record {
  others = λ ne. absurd (ne (sym c.sizeof_type.ensures ∙ sizes_are c.sizeof_type.result (sym c.ne.ensures ∙ c.if-ne.false)));
  usual = λ memory t sizes. record {
    found = Err Incompatible;
    ran =
        behind_symbol g.C.Callbacks.told g.C.Callbacks.asked c.args.table.now c.symbol_addr_lookup.new.self c.symbol_addr_lookup.new.self None memory (Err Incompatible)
        (subst (λ (m : Words). symbol_in m (codes "omi_layout") ≡ None) (sym t.is) (c.in-NoSuch.ensures.table t.words t.rest t.words_told))
        c.symbol_addr_lookup.ensures.same c.symbol_addr_lookup.ensures.asked (refl, refl);
    failed = (λ e. (cc), λ e. (cc));
  };
}

pub returns-in-Failed-clause-asked : goal.returns-in-Failed-clause-asked
returns-in-Failed-clause-asked g c = record {
  others = λ ne. absurd (ne (sym c.sizeof_type.ensures ∙ sizes_are c.sizeof_type.result (sym c.ne.ensures ∙ c.if-ne.false)));
  usual = λ memory t sizes. record {
    found = Err CallbackError;
    ran = inl (c.symbol_addr_lookup.ensures.asked, refl);
    failed = (λ e. refl, λ e. refl);
  };
}

pub returns-in_err-words-clause-asked : goal.returns-in_err-words-clause-asked
returns-in_err-words-clause-asked g c = record {
  others = λ ne. absurd (ne (sym c.sizeof_type.ensures ∙ sizes_are c.sizeof_type.result (sym c.ne.ensures ∙ c.if-ne.false)));
  usual = λ memory t sizes.
      let p = err_from_is_err_and c.from_residual.result c.from_residual.ensures.1 in
      record {
        found = Err c.in_err-words.field-0.0;
        ran =
            behind_symbol g.C.Callbacks.told g.C.Callbacks.asked c.args.table.now c.symbol_addr_lookup.new.self c.read_table.new.table (Some c.in-At.address) memory (Err c.in_err-words.field-0.0)
            (subst (λ (m : Words). symbol_in m (codes "omi_layout") ≡ Some c.in-At.address) (sym t.is) (c.in-At.ensures.table t.words t.rest t.words_told))
            c.symbol_addr_lookup.ensures.same c.symbol_addr_lookup.ensures.asked
            (c.in_err-words.ensures.reads memory (still_tells _ _ memory c.symbol_addr_lookup.ensures.same t));
        failed =
            (λ e. ap Err (sym p.2 ∙ (let same : c.from_residual.result ≡ Err CallbackError = e in let fails = sym p.1 ∙ same in cc)), λ e. p.1 ∙ ap Err (p.2 ∙ (let fails = e in cc)));
      };
}

pub returns-in-Ok-clause-asked : goal.returns-in-Ok-clause-asked
returns-in-Ok-clause-asked g c = record {
  others = λ ne. absurd (ne (sym c.sizeof_type.ensures ∙ sizes_are c.sizeof_type.result (sym c.ne.ensures ∙ c.if-ne.false)));
  usual = λ memory t sizes. record {
    found = Ok c.in_ok-words.words;
    ran =
        behind_symbol g.C.Callbacks.told g.C.Callbacks.asked c.args.table.now c.symbol_addr_lookup.new.self c.read_table.new.table (Some c.in-At.address) memory (Ok c.in_ok-words.words)
        (subst (λ (m : Words). symbol_in m (codes "omi_layout") ≡ Some c.in-At.address) (sym t.is) (c.in-At.ensures.table t.words t.rest t.words_told))
        c.symbol_addr_lookup.ensures.same c.symbol_addr_lookup.ensures.asked
        (c.in_ok-words.ensures.reads memory (still_tells _ _ memory c.symbol_addr_lookup.ensures.same t));
    failed = (λ e. (cc), λ e. (cc));
  };
}

-- no fault of a layout is a failed callback
no_failure : (addr : ℕ) (fault : LayoutFault) → fault_code addr fault ≢ CallbackError
no_failure addr (Version v) e = (cc)
no_failure addr (Overlap f g) e = (cc)
no_failure addr (OutOfRecord f) e = (cc)
no_failure addr (BadArena p) e = (cc)

pub returns-in-Err-clause-asked : goal.returns-in-Err-clause-asked
returns-in-Err-clause-asked g c = record {
  others = λ ne. absurd (ne (sym c.sizeof_type.ensures ∙ sizes_are c.sizeof_type.result (sym c.ne.ensures ∙ c.if-ne.false)));
  usual = λ memory t sizes. record {
    found = Ok c.in_ok-words.words;
    ran =
        behind_symbol g.C.Callbacks.told g.C.Callbacks.asked c.args.table.now c.symbol_addr_lookup.new.self c.read_table.new.table (Some c.in-At.address) memory (Ok c.in_ok-words.words)
        (subst (λ (m : Words). symbol_in m (codes "omi_layout") ≡ Some c.in-At.address) (sym t.is) (c.in-At.ensures.table t.words t.rest t.words_told))
        c.symbol_addr_lookup.ensures.same c.symbol_addr_lookup.ensures.asked
        (c.in_ok-words.ensures.reads memory (still_tells _ _ memory c.symbol_addr_lookup.ensures.same t));
    failed =
        (λ e. absurd (no_failure (table_address c.in-At.address (word_named c.in-Err.fault)) c.in-Err.fault (sym c.refusal.ensures ∙ (let same : c.refusal.result ≡ CallbackError = cc in same))), λ e. (cc));
  };
}
