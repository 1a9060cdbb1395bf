-- What is answered to a message whose target names a page.
use Rattle.std.specs.Prelude.{ℕ, ◌++◌, Bool, List, codes, length, if◌then◌else◌, Option, option_map}
use Rattle.std.specs.Fmt.{decimal}
use Rattle.std.specs.Str.{bytes_eq}
use Rattle.fpl_http.specs.Responses.{closing_line, response_text}
use Rattle.fpl_http.specs.Stream.{Request}
use Rattle.listener.specs.Kinds.{media_type}
use Rattle.listener.specs.Pages.{page_at}
use Rattle.listener.specs.declared.pages.Page.{Page}

-- what a browser is told of each page: to ask again, to take the type as it is told, and to load nothing from elsewhere
abbrev pub guarding_fields : List ℕ
guarding_fields =
    codes "Cache-Control: no-cache\r\nX-Content-Type-Options: nosniff\r\nContent-Security-Policy: default-src 'self'; frame-ancestors 'none'; base-uri 'none'; form-action 'self'\r\n"

-- the head of a page's response
abbrev pub page_head : Page → Bool → List ℕ
page_head page closing =
    codes "HTTP/1.1 200 OK\r\nContent-Type: " ++ (media_type page.kind ++ (codes "\r\nContent-Length: " ++ (decimal (length page.bytes)
    ++ (codes "\r\n" ++ (guarding_fields ++ (closing_line closing ++ codes "\r\n"))))))

abbrev pub page_text : Page → Bool → List ℕ
page_text page closing = page_head page closing ++ page.bytes

-- the body that says that the method is another
abbrev pub method_text : List ℕ
method_text = codes "{\"error\":\"method\"}"

-- a page is shown to who gets it, and another method is refused
abbrev pub answered : Page → Request → List ℕ
answered page m = if bytes_eq m.method (codes "GET") then page_text page m.closes else response_text 405 method_text m.closes

-- what is answered to a message, where its target names a page
abbrev pub page_answer : List Page → Request → Option (List ℕ)
page_answer pages m = option_map (λ page. answered page m) (page_at pages m.target)
