use Rattle.request_handler.proofs.WholeFacts.{replies_are_whole}
use Rattle.request_handler.proofs.reply_laws.replies_are_whole.Goals as goal

pub returns-clause-reply : goal.returns-clause-reply
returns-clause-reply c = replies_are_whole c.books_are_lawful.ensures.run c.lawful_books_are_judged.ensures c.targets_ask_one_thing.ensures

pub returns-clause-run : goal.returns-clause-run
returns-clause-run c =
    c.sessions_stay.ensures.runs (replies_are_whole c.books_are_lawful.ensures.run c.lawful_books_are_judged.ensures c.targets_ask_one_thing.ensures)

pub returns-clause-session : goal.returns-clause-session
returns-clause-session c =
    c.sessions_stay.ensures.sessions (replies_are_whole c.books_are_lawful.ensures.run c.lawful_books_are_judged.ensures c.targets_ask_one_thing.ensures)
