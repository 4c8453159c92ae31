pub mod AllTwelve
