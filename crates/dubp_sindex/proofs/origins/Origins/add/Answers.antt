use Rattle.std.proofs.Common.{option_map, ap, subst, ◌∙◌}
use Rattle.dubp_sindex.specs.declared.origins.Name.TheVariants.{Dividend, Output}
use Rattle.dubp_sindex.specs.Origins.{Keeps, name_in}
use Rattle.dubp_sindex.proofs.Named.{same_keys, more_keys, same_hashes, more_hashes}
use Rattle.dubp_sindex.proofs.Sources.{same_text_own}
use Rattle.dubp_sindex.proofs.Texts.{number_is}
use Rattle.dubp_sindex.proofs.origins.Origins.add.Goals as goal

pub returns-in_ok-number-in-D-clause-name : goal.returns-in_ok-number-in-D-clause-name
returns-in_ok-number-in-D-clause-name c =
    (λ i. name_in (record { keys = c.in_ok-number-in-D.ensures.added i; hashes = c.self.inside.hashes.keys }) (c.in-D.is i))
    ∙ ap (option_map (λ n. Dividend n c.in-D.block)) (number_is c.self.inside.keys.keys c.in-D.key c.in_ok-number-in-D.number c.in_ok-number-in-D.ensures.number (same_text_own c.in-D.key))

pub returns-in_ok-number-in-T-clause-name : goal.returns-in_ok-number-in-T-clause-name
returns-in_ok-number-in-T-clause-name c =
    (λ i. name_in (record { keys = c.self.inside.keys.keys; hashes = c.in_ok-number-in-T.ensures.added i }) (c.in-T.is i))
    ∙ ap (option_map (λ n. Output n c.in-T.index)) (number_is c.self.inside.hashes.keys c.in-T.tx c.in_ok-number-in-T.number c.in_ok-number-in-T.ensures.number (same_text_own c.in-T.tx))

pub returns-in_err-number-in-D-clause-keeps : goal.returns-in_err-number-in-D-clause-keeps
returns-in_err-number-in-D-clause-keeps c = subst (λ o. Keeps o (record { keys = c.add_key.new.keys.keys; hashes = c.self.inside.hashes.keys })) c.self.view_is (same_keys c.self.inside.keys.keys c.self.inside.hashes.keys c.add_key.new.keys.keys c.in_err-number-in-D.ensures.refused)

pub returns-in_ok-number-in-D-clause-keeps : goal.returns-in_ok-number-in-D-clause-keeps
returns-in_ok-number-in-D-clause-keeps c = subst (λ o. Keeps o (record { keys = c.add_key.new.keys.keys; hashes = c.self.inside.hashes.keys })) c.self.view_is (more_keys c.self.inside.keys.keys c.self.inside.hashes.keys c.add_key.new.keys.keys c.in-D.key c.in_ok-number-in-D.ensures.added)

pub returns-in_err-number-in-T-clause-keeps : goal.returns-in_err-number-in-T-clause-keeps
returns-in_err-number-in-T-clause-keeps c = subst (λ o. Keeps o (record { keys = c.self.inside.keys.keys; hashes = c.add_hash.new.hashes.keys })) c.self.view_is (same_hashes c.self.inside.keys.keys c.self.inside.hashes.keys c.add_hash.new.hashes.keys c.in_err-number-in-T.ensures.refused)

pub returns-in_ok-number-in-T-clause-keeps : goal.returns-in_ok-number-in-T-clause-keeps
returns-in_ok-number-in-T-clause-keeps c = subst (λ o. Keeps o (record { keys = c.self.inside.keys.keys; hashes = c.add_hash.new.hashes.keys })) c.self.view_is (more_hashes c.self.inside.keys.keys c.self.inside.hashes.keys c.add_hash.new.hashes.keys c.in-T.tx c.in_ok-number-in-T.ensures.added)
