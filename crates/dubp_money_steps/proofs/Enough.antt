-- What clearing by balances leaves has enough, and who can have too little then.
use Rattle.std.proofs.Common.{◌≡◌, ℕ, ◌≤◌, Bool, true, false, not, ◌==◌, List, filter, sum_by, nat_lt, refl, ap, sym, ◌∙◌, subst, inl, inr, ◌⊎◌, arith}
use Rattle.std.specs.List.{list_any}
use Rattle.std.proofs.lemmas.Bool.Decides.{Decides-eqb}
use Rattle.std.proofs.lemmas.Bool.{ltb-false}
use Rattle.dubp_laws.proofs.OfLists.{IsIn, in_all, all_from_in, not_true, in_filter, kept_in}
use Rattle.dubp_sindex.specs.Rows.{Entry, units_of_entry, is_of, of_account, units_in}
use Rattle.dubp_money_steps.specs.Clearing.{has_little, HasEnough}
use Rattle.dubp_money_steps.specs.Laws.{KeptHaveEnough, OthersHaveEnough}
use Rattle.dubp_money_steps.proofs.ByBalance.{filter_whole}

pub same_account : (a b : ℕ) → (a == b) ≡ true → a ≡ b
same_account a b = (Decides-eqb a b).0

-- what the accounts that are not gone have is what they had
pub kept_account : (gone : ℕ → Bool) (account : ℕ) (rows : List Entry) → gone account ≡ false → of_account account (filter (λ e. not (gone e.1.account)) rows) ≡ of_account account rows
kept_account gone account rows stays =
    filter_whole (is_of account) (λ e. not (gone e.1.account)) true
    (λ e is. ap not (ap gone (sym (same_account account e.1.account is)) ∙ stays)) rows

pub of_enough : (limit : ℕ) (rows : List Entry) → HasEnough limit rows → (e : Entry) → IsIn e rows → limit ≤ units_in e.1.account rows
of_enough limit rows enough = in_all (λ (x : Entry). limit ≤ units_in x.1.account rows) rows enough.each

pub is_enough : (limit : ℕ) (rows : List Entry) → ((e : Entry) → IsIn e rows → limit ≤ units_in e.1.account rows) → HasEnough limit rows
is_enough limit rows each = record { each = all_from_in (λ (x : Entry). limit ≤ units_in x.1.account rows) rows each }

-- what clearing leaves has enough
pub kept_have_enough : KeptHaveEnough
kept_have_enough limit rows =
    is_enough limit (filter (λ e. not (has_little limit rows e)) rows) (λ e there.
    let gone : ℕ → Bool = λ a. nat_lt (units_in a rows) limit in
    let h = in_filter (λ (x : Entry). not (gone x.1.account)) rows e there in
    let stays : gone e.1.account ≡ false = not_true (gone e.1.account) h.1 in
    omega (arith, ltb-false (units_in e.1.account rows) limit stays, ap (sum_by units_of_entry) (kept_account gone e.1.account rows stays)))

-- so where the limit has not risen, only accounts whose rows have changed can have too little
pub others_have_enough : OthersHaveEnough
others_have_enough limit accounts before rows enough same =
    all_from_in _ rows (λ e there.
    elim (list_any (λ a. a == e.1.account) accounts) as (λ r. list_any (λ a. a == e.1.account) accounts ≡ r → (r ≡ true) ⊎ (limit ≤ units_in e.1.account rows)) [
      | true ↦ λ _. inl refl
      | false ↦ λ other.
          let are = same e.1.account other in
          let h = in_filter (is_of e.1.account) before e (subst (IsIn e) are (kept_in (is_of e.1.account) rows e there ((Decides-eqb e.1.account e.1.account).1 refl))) in
          inr (omega (arith, of_enough limit before enough e h.0, ap (sum_by units_of_entry) are))
    ] refl)
