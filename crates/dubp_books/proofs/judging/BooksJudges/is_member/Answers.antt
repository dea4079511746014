use Rattle.dubp_books.proofs.judging.BooksJudges.is_member.Goals as goal

pub returns : goal.returns
returns g c = λ d at sound. c.is_member.ensures d at.0 sound
